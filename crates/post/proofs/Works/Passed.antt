-- What a call that nothing refuses was given, by the rows of its table. Assumes nothing.
use mathlib.Core.Path.{◌≡◌}
use mathlib.Core.Bool.{Bool, true, false, not, cond}
use mathlib.Core.List.{List}
use Prim.Native.Nat.{ℕ}
use native.Mathlib.Omega.{arith}
use lib.Dec.{T}
use Rattle.laws.specs.Ladder.{refusal}
use Rattle.frame.specs.Frame.{fields_of}
use Rattle.calls.specs.declared.Own.{Own}
use Rattle.calls.proofs.Passing.{Speaks, own_passed, Comes, receive_passed}
use Rattle.post.specs.declared.Post.{Post}
use Rattle.post.specs.Sound.{sound}
use Rattle.post.specs.Calls.{view_of, own_rows, receive_rows}

-- the record is sound, and no later row refuses
past_one : (t : Bool) (n : ℕ) → cond (not t) 1 n ≡ 0 → T t × (n ≡ 0)
past_one true n e = (tt, e)
past_one false n e = absurd (omega arith)

pub speaks : (o : Own) (p : Post) (n : ℕ) → refusal (own_rows o p n) ≡ 0 → T (sound p) × Speaks o (view_of p) n
unfolding own_rows
speaks o p n e = let q = past_one (sound p) _ e in (q.0, own_passed o (view_of p) n q.1)

pub accepted : (p : Post) (s : List ℕ) (n : ℕ) → refusal (receive_rows p s n) ≡ 0 → T (sound p) × Comes (view_of p) n (fields_of s).message
unfolding receive_rows
accepted p s n e = let q = past_one (sound p) _ e in (q.0, receive_passed (view_of p) s n q.1)
