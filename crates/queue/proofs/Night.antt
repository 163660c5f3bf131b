-- 01's bench night, reckoned through. Assumes nothing.
use mathlib.Core.Path.{◌≡◌, refl}
use Prim.Native.Nat.{ℕ, zero, suc, ◌<◌}
use native.Mathlib.Omega.{arith}
use Rattle.laws.specs.{Lists.{keep, final, put, upto, top}, Below.{all_to, sum_to}, Ladder.{unless}}
use Rattle.frame.specs.Frame.{frame, fields_of, form_rows}
use Rattle.calls.specs.{View.{acks}, Table.{phase_tests, sender_tests, turn_tests, receive_tests}}
use Rattle.queue.specs.Queue.{clock, last, heard, settled, waiting, room, free, grants, latest, phase}
use Rattle.queue.specs.Calls.{saying, say, accept, grant_came, said, received, on_queue}
use Rattle.queue.specs.Feeder.{sent, had, pending, comes_to, run, returns_sent, granted}
use Rattle.queue.specs.Night.{night, ClearedNight}

-- the same of each pair of two posts
two_posts : (P : ℕ → ℕ → Type 0) → P 0 0 → P 0 1 → P 1 0 → P 1 1 → (p q : ℕ) → p < 2 → q < 2 → P p q
two_posts P a b c d zero zero lp lq = a
two_posts P a b c d zero (suc zero) lp lq = b
two_posts P a b c d (suc zero) zero lp lq = c
two_posts P a b c d (suc zero) (suc zero) lp lq = d
two_posts P a b c d zero (suc (suc q)) lp lq = absurd (omega arith)
two_posts P a b c d (suc zero) (suc (suc q)) lp lq = absurd (omega arith)
two_posts P a b c d (suc (suc p)) q lp lq = absurd (omega arith)

pub cleared_night : ClearedNight
unfolding run comes_to pending on_queue said received accept say saying grant_came unless acks phase_tests sender_tests turn_tests receive_tests form_rows frame fields_of
    clock last heard settled waiting room free grants latest phase keep final put upto top all_to sum_to returns_sent granted
cleared_night = record {
  cleared = two_posts (λ p q. had night p q ≡ sent night p) refl refl refl refl;
  same = refl;
  two-granted = refl;
  one_returned = refl;
}
