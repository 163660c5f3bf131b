-- The phase and the order number, by the own latest take or return. Assumes nothing.
use mathlib.Core.Path.{◌≡◌}
use mathlib.Core.Bool.{Bool, true, false, not, cond}
use Prim.Native.Nat.{◌≤◌, ◌<◌}
use native.Mathlib.Omega.{arith}
use lib.Dec.{T, eqb}
use lib.Ieee.Bits.{is_true, is_false}
use Rattle.laws.proofs.Counting.{upto_some}
use Rattle.frame.specs.Message.{is_take, stamp}
use Rattle.calls.specs.declared.Start.{Start}
use Rattle.queue.specs.Queue.{Queue, heard, takes, number, free, latest, phase, order}
use Rattle.queue.proofs.Granted.{in_takes, latest_in}

module _ (st : Start) (q : Queue) where
  -- the latest is no take
  pub phase_idle : T (not (is_take (latest st q))) → phase st q ≡ 0
  unfolding phase
  phase_idle n = rw (is_false (is_take (latest st q)) n)

  pub order_idle : T (not (is_take (latest st q))) → order st q ≡ 0
  unfolding order
  order_idle n = rw (is_false (is_take (latest st q)) n)

  -- it is one that is not settled
  pub phase-asked : T (is_take (latest st q)) → T (not (heard st q (latest st q))) → phase st q ≡ 1
  unfolding phase
  phase-asked t n = rw (is_true (is_take (latest st q)) t, is_false (heard st q (latest st q)) n)

  pub order-asked : T (is_take (latest st q)) → T (not (heard st q (latest st q))) → order st q ≡ 0
  unfolding order
  order-asked t n = rw (is_true (is_take (latest st q)) t, is_false (heard st q (latest st q)) n)

  -- it is settled
  pub phase_numbered : T (is_take (latest st q)) → T (heard st q (latest st q)) → phase st q ≡ cond (free st q (latest st q)) 3 2
  unfolding phase
  phase_numbered t h = rw (is_true (is_take (latest st q)) t, is_true (heard st q (latest st q)) h)

  pub order_numbered : T (is_take (latest st q)) → T (heard st q (latest st q)) → order st q ≡ number st q (latest st q)
  unfolding order
  order_numbered t h = rw (is_true (is_take (latest st q)) t, is_true (heard st q (latest st q)) h)

  pub number_some : T (is_take (latest st q)) → T (heard st q (latest st q)) → 0 < number st q (latest st q)
  number_some t h = upto_some stamp (takes st q) (latest st q) (in_takes st q (latest st q) (latest_in st q t).0 t h)

  pub phase_small : phase st q ≤ 3
  unfolding phase
  phase_small = go (is_take (latest st q)) (heard st q (latest st q)) (free st q (latest st q))
    where
      go : (a b c : Bool) → cond a (cond b (cond c 3 2) 1) 0 ≤ 3
      go true true true = omega arith
      go true true false = omega arith
      go true false c = omega arith
      go false b c = omega arith

  -- a numbered take is never in phase 1
  pub asked-latest : T (eqb (phase st q) 1) → T (is_take (latest st q)) × T (not (heard st q (latest st q)))
  unfolding phase
  asked-latest = go (is_take (latest st q)) (heard st q (latest st q)) (free st q (latest st q))
    where
      go : (a b c : Bool) → T (eqb (cond a (cond b (cond c 3 2) 1) 0) 1) → T a × T (not b)
      go true true true t = absurd t
      go true true false t = absurd t
      go true false c t = (tt, tt)
      go false b c t = absurd t
