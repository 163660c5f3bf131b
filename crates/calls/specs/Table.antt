-- The table of refusals for the calls of a post: what is given and when, in the order of the tests. n is the length of the lent buffer.
use Rattle.std.specs.Prelude.{Bool, not, ◌&&◌, ◌||◌, List, [], ◌∷◌, ◌++◌, ℕ, leb, ltb, eqb, length}
use Rattle.laws.specs.Ladder.{Row, ◌when◌}
use Rattle.frame.specs.{declared.Message.{Message}, Message.{take_kind, ack_kind, counted, last_counter}, Frame.{size, fields_of, form_rows}}
use Rattle.calls.specs.{declared.Own.{Own}, Own.{row_of}, View.{View, acks}}

-- an own message, which goes out in one phase alone; in another it gets the number other
unfoldable pub phase_tests : ℕ → ℕ → View → ℕ → List Row
phase_tests from other v n = 2 when ltb n size ∷ other when not (eqb v.phase from) ∷ 11 when leb last_counter v.clock ∷ []

abbrev pub own_tests : Own → View → ℕ → List Row
own_tests o v n = phase_tests (row_of o).from (row_of o).other v n

-- the kinds that a post takes: a take, a return, an acknowledgment
abbrev pub served : ℕ → Bool
served kind = leb take_kind kind && leb kind ack_kind

-- the sender of a message that comes in
unfoldable pub sender_tests : View → Message → List Row
sender_tests v m =
    7 when not (served m.kind) ∷ 8 when (eqb m.sender v.start.own || leb v.start.posts m.sender) ∷ 9 when eqb m.counter 0 ∷ []

-- its turn: after the sender's last, with a counter left for the acknowledgment, and at most 4 of the sender waiting with it
unfoldable pub turn_tests : View → Message → List Row
turn_tests v m =
    10 when leb m.counter (v.last m.sender)
    ∷ 11 when (acks v m && (leb last_counter v.clock || leb last_counter m.counter))
    ∷ 12 when (counted m && leb 4 (v.waits m.sender))
    ∷ []

-- a frame s
unfoldable pub receive_tests : View → List ℕ → ℕ → List Row
receive_tests v s n =
    let f = fields_of s in
    let m = f.message in
    2 when ltb n size ∷ form_rows (length s) f ++ (6 when not (eqb f.feeder v.start.feeder) ∷ sender_tests v m ++ turn_tests v m)
