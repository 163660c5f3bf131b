-- A started record is sound where its numbers are in range, and the all-zero record never is. Assumes nothing.
use mathlib.Core.Path.{refl}
use Prim.Native.Nat.{ℕ}
use native.Mathlib.Omega.{arith}
use lib.Dec.{T}
use lib.Ieee.Bits.{is_true}
use lib.ListN.{get_or-replicate}
use Rattle.laws.specs.Lists.{keep}
use Rattle.calls.specs.declared.Start.{Start}
use Rattle.calls.specs.Start.{starting, in_range}
use Rattle.post.specs.Record.{fresh}
use Rattle.post.specs.Sound.{end_kind, own_fits, own_few, order_fits, sound}
use Rattle.post.specs.Calls.{started}
use Rattle.calls.proofs.Ranges.{range_is}
use Rattle.post.proofs.Sound.Facts.{Sound, sound_has}
use Rattle.post.proofs.Sound.Passes.{sound_passes}
use Rattle.post.proofs.Fields.Shape.{Kept}

module _ (st : Start) (t : T (in_range st)) where
  fresh_has : Sound (fresh st)
  unfolding fresh keep end_kind own_fits own_few order_fits
  fresh_has =
      record {
        range = range_is st t;
        phase = omega arith;
        waits = omega arith;
        absent = λ q l h. get_or-replicate {A = ℕ} 16 q 0 0 l;
        clock = λ q l. let e = get_or-replicate {A = ℕ} 16 q 0 0 l in omega arith;
        fair = λ m i. absurd i;
        rising = tt;
        above = λ m i. absurd i;
        alone = λ e. refl;
        blanks = refl;
        few = λ q l d. omega arith;
        own_few_lem = tt;
        sum = omega arith;
        order = tt;
      }

  pub started-kept : Kept (started st).post
  unfolding started fresh
  started-kept = rw (is_true (in_range st) t) (record { sound = sound_passes (fresh st) fresh_has; shape = record { last = refl; slots = refl }; width = omega arith })

pub zero_unsound : T (sound (fresh (starting 0 0 0 0))) → ⊥
unfolding fresh
zero_unsound t = let s = sound_has (fresh (starting 0 0 0 0)) t in let a = s.range.posts_low in omega arith
