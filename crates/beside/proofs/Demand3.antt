-- Demand 3 said of boards: the proof of `specs/Demand3`. What is seen of each board is what its full queue says (`OneBoard`), the frames that
-- it accepted are the messages that it has of the others, and full queues meet demand 3 (`strong`). Assumes nothing.
use mathlib.Core.Path.{◌≡◌, refl, sym, ap, ◌∙◌, subst, subst₂, subst₃}
use mathlib.Core.Logic.{◌⊎◌, ◌↔◌, ⊎_elim}
use mathlib.Core.List.{List, [], map}
use Prim.Native.Nat.{ℕ, ◌+◌, ◌≤◌, ◌<◌}
use native.Mathlib.Omega.{arith}
use lib.Dec.{eqb, eqb→eq}
use lib.ListN.{length}
use Rattle.laws.specs.Below.{sum_to, one?, count_to}
use Rattle.laws.specs.Lists.{In, keep, many, Begins, upto}
use Rattle.laws.proofs.Tests.{test, neqb→ne, leb-total}
use Rattle.laws.proofs.BelowLaws.{sum_to_cong}
use Rattle.laws.proofs.ListLaws.{begins_map}
use Rattle.frame.specs.declared.Message.{Message}
use Rattle.frame.specs.Message.{is_take, is_return, counted, stamp}
use Rattle.calls.specs.Replies.{Call, after}
use Rattle.calls.proofs.Ranges.{range_is}
use Rattle.queue.specs.Calls.{on_queue}
use Rattle.queue.specs.Feeder.{Line, start, LineFits, Feeder, returns_sent, granted, holding}
use Rattle.queue.specs.Demand3.{Faithful, Cleared, Demand3}
use Rattle.queue.proofs.Heard.{settled_in}
use Rattle.queue.proofs.Demand3.{strong}
use Rattle.beside.specs.Demand2.{FramesAreBytes}
use Rattle.beside.specs.Demand3.{message_in, wrote, accepted_of, events, board_of, FirstFrames, AllAccepted, granted_at, returns_written, OfBoards}
use Rattle.beside.proofs.OneBoard.{OfQueue, of_queue}

module _ (L : Line) (fits : LineFits L) (calls : ℕ → List Call) (bytes : (p : ℕ) → p < L.posts → FramesAreBytes (calls p)) where
  abbrev queues : Feeder
  queues p = after (on_queue (start L p)) [] (calls p)

  seen : (p : ℕ) → p < L.posts → OfQueue (start L p) (queues p) (events L calls p) (board_of L calls p)
  seen p l = of_queue (start L p) (fits p l) (calls p) (bytes p l)

  faithful : FirstFrames L calls → Faithful L queues
  faithful first p q lp lq d =
      subst₂ Begins ((seen q lq).accepted_is p d) (seen p lp).wrote_is
      (begins_map message_in (accepted_of p (events L calls q)) (wrote (events L calls p)) (first p q lp lq d))

  cleared : AllAccepted L calls → Cleared L queues
  cleared all p q lp lq =
      test (eqb p q)
      (λ y. rw (eqb→eq p q y))
      (λ n. let d = neqb→ne p q n in sym ((seen q lq).accepted_is p d) ∙ ap (map message_in) (all p q lp lq d) ∙ (seen p lp).wrote_is)

  -- with no post there is nothing to bound
  few : L.posts ≤ 16
  few = ⊎_elim (λ z. omega arith) (λ z. (range_is (start L 0) (fits 0 z)).posts_high) (leb-total L.posts 0)

  queues_meet : FirstFrames L calls → Demand3 L queues
  queues_meet first = strong L few queues (λ p l. (calls p, refl)) (faithful first)

  returns_are : returns_sent L queues ≡ returns_written L calls
  unfolding returns_sent
  returns_are = sum_to_cong L.posts _ _ (λ p l. ap (many is_return) (sym (seen p l).wrote_is))

  grants_are : granted L queues ≡ sum_to L.posts (λ p. length (granted_at L calls p))
  unfolding granted
  grants_are = sum_to_cong L.posts _ _ (λ p l. ap length (sym (seen p l).marks_is))

  holding_are : holding L queues ≡ count_to L.posts (λ p. eqb (board_of L calls p).phase 3)
  unfolding holding
  holding_are = sum_to_cong L.posts _ _ (λ p l. ap (λ (n : ℕ). one? (eqb n 3)) (sym (seen p l).phase_is))

pub of_boards : OfBoards
of_boards L fits calls bytes first =
    let d = queues_meet L fits calls bytes first in
    let at = seen L fits calls bytes in
    let settled : (p : ℕ) (l : p < L.posts) → _ = λ p l. sym (at p l).settled_is in
    let a = d.never_more in
    let b = d.never_more_hold in
    record {
      one_order = λ p q lp lq. subst₂ (λ (s t : List Message). Begins s t ⊎ Begins t s) (settled p lp) (settled q lq) (d.one_order p q lp lq);
      never_more = omega (arith, grants_are L fits calls bytes, returns_are L fits calls bytes);
      never_more_hold = omega (arith, holding_are L fits calls bytes);
      all_settled = λ all p q lp lq.
          (at p lp).settled_is ∙ d.all_settled (cleared L fits calls bytes all) p q lp lq ∙ ap (keep counted) (sym (at q lq).held_is);
      exactly = λ all p q lp lq t.
          subst₃ (λ (g s : List Message) (n : ℕ). In t g ↔ (In t (keep is_take s) × (t.sender ≡ p) × (upto stamp (keep is_take s) t ≤ L.places + n)))
          (sym (at p lp).marks_is) (settled q lq) (returns_are L fits calls bytes)
          (d.exactly (cleared L fits calls bytes all) p q lp lq t);
      senders = λ q lq m i. d.senders q lq m (settled_in (start L q) (queues L fits calls bytes q) m (subst (In m) (at q lq).settled_is i)).0;
    }
