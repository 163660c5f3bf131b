-- The difference of two numbers: it is no further from zero than the larger, and fits 64 bits where both are below 2 ^ 63. Assumes nothing.
use Prim.Native.Nat.{ℕ, zero, suc, ◌-◌, ◌≤◌, ◌<◌, ◌^◌}
use mathlib.Core.Bool.{Bool, true, false, cond}
use native.Mathlib.Omega.{arith}
use lib.Dec.{ltb, ltb→lt}
use lib.IntN.{pos, negsuc, nat_abs, ◌-ℤ◌}
use lib.Signed.{mag}
use mir.Syntax.{w64}
use mir.Val.{SFits}
use Rattle.laws.proofs.Tests.{cond_both}

pub minus_near : (a b c : ℕ) → a ≤ c → b ≤ c → nat_abs (pos a -ℤ pos b) ≤ c
minus_near a zero c h k = omega arith
minus_near a (suc b) c h k =
    cond_both (λ z. nat_abs z ≤ c) (ltb a (suc b)) (negsuc (suc b - suc a)) (pos (a - suc b)) (λ y. let l = ltb→lt a (suc b) y in omega arith) (λ n. omega arith)

pub minus_fits : (a b : ℕ) → a < 2 ^ 63 → b < 2 ^ 63 → SFits w64 (pos a -ℤ pos b)
minus_fits a zero h k = record { sfits = omega arith }
minus_fits a (suc b) h k = record { sfits = go (ltb a (suc b)) }
  where
    go : (t : Bool) → mag (cond t (negsuc (suc b - suc a)) (pos (a - suc b))) < 2 ^ 63
    go true = omega arith
    go false = omega arith
