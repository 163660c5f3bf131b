-- What the types of the code hold of every record: the lengths of its rows, and a clock of four bytes. Assumes nothing.
use mathlib.Core.Path.{◌≡◌}
use Prim.Native.Nat.{ℕ, ◌≤◌, ◌<◌}
use native.Mathlib.Omega.{arith}
use lib.Dec.{T}
use lib.ListN.{length}
use lib.Seq.{length-take-le}
use Rattle.frame.specs.Message.{last_counter}
use Rattle.post.specs.declared.Post.{Post}
use Rattle.post.specs.Record.{last_of, waiting_of}
use Rattle.post.specs.Sound.{sound}
use Rattle.post.proofs.Sound.Facts.{Sound}

pub record Shape (p : Post) : Type 0 where
  pub last : length p.last ≡ 16
  pub slots : length p.slots ≡ 62

abbrev pub Width : Post → Type 0
Width p = p.clock ≤ last_counter

-- a sound record of the code's types
pub record Kept (p : Post) : Type 0 where
  pub sound : T (sound p)
  pub shape : Shape p
  pub width : Width p

module _ (p : Post) (s : Sound p) where
  pub length-waiting : Shape p → length (waiting_of p) ≡ p.waits
  length-waiting h = length-take-le p.waits p.slots (omega arith)

  pub last_width : Width p → (q : ℕ) → q < 16 → last_of p q ≤ last_counter
  last_width w q l = let a = s.clock q l in omega arith
