-- The proof of `specs/Demand1`: what comes of a table is what its first row says, in each call. Assumes nothing.
use mathlib.Core.Path.{◌≡◌, refl, ap}
use mathlib.Core.Bool.{Bool, true, false, not, cond}
use mathlib.Core.List.{[], ◌∷◌}
use Prim.Native.Nat.{ℕ}
use native.Mathlib.Omega.{arith}
use lib.Dec.{T, eqb, eqb→eq}
use lib.Ieee.Bits.{is_true, is_false}
use lib.ListN.{length}
use Rattle.laws.specs.Ladder.{◌when◌, refusal, unless}
use Rattle.laws.proofs.Tests.{cond_both}
use Rattle.frame.specs.Message.{blank}
use Rattle.frame.specs.Frame.{fields_of, read_frame, reading, bytes_after, over, write_no}
use Rattle.calls.specs.Start.{in_range}
use Rattle.calls.specs.Replies.{Call, own_call, receive_call, value_call, missing_call}
use Rattle.post.specs.declared.Post.{Post}
use Rattle.post.specs.Sound.{sound}
use Rattle.post.specs.Calls.{started, Outcome, stays, said, heard_from, own_rows, receive_rows, valued, missed}
use Rattle.post.proofs.Sound.Starts as starts
use Rattle.beside.specs.OnRecord.{on_record, answered}
use Rattle.beside.specs.Tells.{done}
use Rattle.beside.specs.Demand1.{rows_of, refused_with, read_no, Demand1}

-- what is done where n is 0, and else what is refused with n
on_refusal : {A : Type 0} (n : ℕ) (f : ℕ → A) (d : A) → (n ≡ 0 → ⊥) → cond (eqb n 0) d (f n) ≡ f n
on_refusal n f d ne = cond_both (λ x. x ≡ f n) (eqb n 0) d (f n) (λ y. absurd (ne (eqb→eq n 0 y))) (λ y. refl)

on_none : {A : Type 0} (n : ℕ) (f : ℕ → A) (d : A) → n ≡ 0 → cond (eqb n 0) d (f n) ≡ d
on_none n f d e = ap (λ (k : ℕ). cond (eqb k 0) d (f k)) e

-- a record that row 1 refuses, and one that it does not
unsound : (t : Bool) → (refusal (1 when not t ∷ []) ≡ 0 → ⊥) → t ≡ false
unsound true n = absurd (n refl)
unsound false n = refl

sounds : (t : Bool) → refusal (1 when not t ∷ []) ≡ 0 → t ≡ true
sounds true e = refl
sounds false e = absurd (omega arith)

call_refused : (p : Post) (c : Call) → (refusal (rows_of p c) ≡ 0 → ⊥)
    → ((on_record p c).reply ≡ refused_with (refusal (rows_of p c)) c) × ((on_record p c).next ≡ p)
unfolding on_record unless valued missed
call_refused p (own_call o lent) n =
    let e = on_refusal (refusal (own_rows o p (length lent))) (stays p lent) (said o p lent) n in
    (ap (λ (x : Outcome). (answered x).reply) e, ap (λ (x : Outcome). (answered x).next) e)
call_refused p (receive_call s lent) n =
    let e = on_refusal (refusal (receive_rows p s (length lent))) (stays p lent) (heard_from p (fields_of s).message lent) n in
    (ap (λ (x : Outcome). (answered x).reply) e, ap (λ (x : Outcome). (answered x).next) e)
call_refused p value_call n = rw (unsound (sound p) n) (refl, refl)
call_refused p missing_call n = rw (unsound (sound p) n) (refl, refl)

call_accepted : (p : Post) (c : Call) → refusal (rows_of p c) ≡ 0 → T (done (on_record p c).reply)
unfolding on_record unless valued missed heard_from
call_accepted p (own_call o lent) e = rw (on_none (refusal (own_rows o p (length lent))) (stays p lent) (said o p lent) e) tt
call_accepted p (receive_call s lent) e = rw (on_none (refusal (receive_rows p s (length lent))) (stays p lent) (heard_from p (fields_of s).message lent) e) tt
call_accepted p value_call e = rw (sounds (sound p) e) tt
call_accepted p missing_call e = rw (sounds (sound p) e) tt

pub demand1 : Demand1
unfolding started read_frame bytes_after
demand1 = record {
  refused = call_refused;
  accepted = call_accepted;
  start-refused = λ st t. rw (is_false (in_range st) t) refl;
  start_accepted = λ st t. rw (is_true (in_range st) t) refl;
  zero_unsound = starts.zero_unsound;
  read_refused = λ s n. on_refusal (read_no s) (λ k. record { number = k; feeder = 0; message = blank }) _ n;
  read_accepted = λ s e. ap (λ (n : ℕ). (reading n (fields_of s)).number) e;
  write_refused = λ old f m n. on_refusal (write_no old m) (λ k. old) (over f m old) n;
}
