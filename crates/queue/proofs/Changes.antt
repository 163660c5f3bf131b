-- What a call does to a queue: nothing, an own take or return, or a new message accepted. From here on no byte and no row is looked at.
-- Assumes nothing.
use mathlib.Core.Path.{◌≡◌}
use mathlib.Core.List.{List, [], ◌∷◌}
use Prim.Native.Nat.{ℕ, ◌<◌}
use native.Mathlib.Omega.{arith}
use lib.Dec.{T, eqb, eqb_refl}
use lib.ListN.{length}
use Rattle.laws.specs.Ladder.{refusal}
use Rattle.laws.proofs.RefusalLaws.{unless_both}
use Rattle.frame.specs.Message.{last_counter}
use Rattle.frame.specs.Frame.{fields_of}
use Rattle.calls.specs.declared.Own.{Own}
use Rattle.calls.specs.Own.{row_of}
use Rattle.calls.specs.Table.{own_tests, receive_tests}
use Rattle.calls.proofs.Passing.{own_known, own_passed, receive_passed}
use Rattle.calls.specs.declared.Start.{Start}
use Rattle.queue.specs.Queue.{Queue, clock, phase}
use Rattle.calls.specs.Replies.{Call, own_call, receive_call, value_call, missing_call, Answer, after}
use Rattle.queue.specs.Calls.{view, say, accept, said, received, on_queue}
use Rattle.queue.proofs.Good.{New, Good, good_say, good_accept}

-- the queues that a call may leave
pub data Change (st : Start) (q : Queue) : Call → Queue → Type 0 where
  unchanged : {c : Call} → Change st q c q
  spoke : {o : Own} {lent : List ℕ} → T (eqb (phase st q) (row_of o).from) → clock q < last_counter → Change st q (own_call o lent) (say st (row_of o).kind q)
  accepted : {s lent : List ℕ} → New st q (fields_of s).message → Change st q (receive_call s lent) (accept st q (fields_of s).message)

-- a received message that no row refuses is new
module _ (st : Start) (q : Queue) where
  pub receives_new : (s : List ℕ) (n : ℕ) → refusal (receive_tests (view st q) s n) ≡ 0 → New st q (fields_of s).message
  receives_new s n e =
      let c = receive_passed (view st q) s n e in
      let a = c.new in
      record {
        other = c.other;
        proper = record { sender = c.sender; counter = omega arith; kind = c.kind };
        above = a;
        room = λ y. (c.clock y, c.counter y);
        few = c.few;
      }

  pub change : (c : Call) → Change st q c (on_queue st q c).next
  unfolding on_queue said received
  change (own_call o lent) =
      unless_both {A = Answer Queue} (λ a. Change st q (own_call o lent) a.next) (own_tests o (view st q) (length lent)) _ _
      (λ z. let h = own_passed o (view st q) (length lent) z in spoke (rw h.phase (eqb_refl (row_of o).from)) h.clock)
      (λ n d. unchanged)
  change (receive_call s lent) =
      unless_both {A = Answer Queue} (λ a. Change st q (receive_call s lent) a.next) (receive_tests (view st q) s (length lent)) _ _
      (λ z. accepted (receives_new s (length lent) z))
      (λ n d. unchanged)
  change value_call = unchanged
  change missing_call = unchanged

-- what each change keeps, a list of calls keeps
pub after_calls : (st : Start) (P : Queue → Type 0) → ((c : Call) (q q' : Queue) → Change st q c q' → P q → P q') → (calls : List Call) (q : Queue)
    → P q → P (after (on_queue st) q calls)
unfolding after
after_calls st P kept [] q h = h
after_calls st P kept (c ∷ calls) q h = let q' = (on_queue st q c).next in after_calls st P kept calls q' (kept c q q' (change st q c) h)

pub good_change : (st : Start) (c : Call) (q q' : Queue) → Change st q c q' → Good st q → Good st q'
good_change st c q q' unchanged g = g
good_change st c q q' (spoke {o = o} z l) g = good_say st q g (row_of o).kind (own_known o)
good_change st c q q' (accepted {s = s} w) g = good_accept st q g (fields_of s).message w
