-- Tests that all pass, each by its place. Assumes nothing.
use mathlib.Core.Bool.{Bool}
use mathlib.Core.List.{List, [], ◌∷◌}
use lib.Dec.{T}
use mir.Facts.{yes_and}
use Rattle.laws.specs.Ladder.{every}
use Rattle.laws.proofs.Tests.{and_l, and_r}

abbrev pub Each : List Bool → Type 0
Each [] = Unit
Each (t ∷ ts) = T t × Each ts

pub each : (ts : List Bool) → T (every ts) → Each ts
each [] e = tt
each (t ∷ ts) e = (and_l t (every ts) e, each ts (and_r t (every ts) e))

pub all_of : (ts : List Bool) → Each ts → T (every ts)
all_of [] h = tt
all_of (t ∷ ts) h = yes_and t (every ts) h.0 (all_of ts h.1)
