-- A frame that receive accepts is its message's frame: by the rows that it has passed. Assumes nothing.
use mathlib.Core.Path.{◌≡◌}
use lib.ListN.{length}
use Rattle.laws.specs.Ladder.{refusal}
use Rattle.laws.proofs.Tests.{neqb→ne}
use Rattle.laws.proofs.Ladders.{quiet, unrefused}
use Rattle.laws.proofs.RefusalLaws.{unless_both}
use Rattle.frame.specs.Frame.{form_rows}
use Rattle.calls.specs.Table.{sender_tests, turn_tests, receive_tests}
use Rattle.calls.proofs.Passing.{receive_frame}
use Rattle.beside.specs.Demand2.{AcceptedFrame}
use Rattle.post.specs.Calls.{Outcome, view_of, receive_rows}

pub accepted_frame : AcceptedFrame
unfolding receive_rows receive_tests form_rows sender_tests turn_tests
accepted_frame p s lent b e =
    let rows = receive_rows p s (length lent) in
    let z : refusal rows ≡ 0 =
    unless_both {A = Outcome} (λ o. o.gives.number ≡ 0 → refusal rows ≡ 0) rows _ _ (λ y x. y) (λ n d x. absurd (neqb→ne n 0 d x)) e in
    receive_frame (view_of p) s (length lent) b (unrefused (receive_tests (view_of p) s (length lent)) (quiet rows tt z).1)
