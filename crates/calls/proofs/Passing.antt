-- What a call that no row of its table refuses was given. Assumes nothing.
use mathlib.Core.Path.{◌≡◌, ap, ◌∙◌}
use mathlib.Core.Bool.{Bool, true, false, ◌&&◌}
use mathlib.Core.List.{List}
use Prim.Native.Nat.{ℕ, ◌≤◌, ◌<◌}
use borrow.Author.Tests.{eqb-true, eqb-false, leb-false, ltb-false, not-false}
use denote.Floats.{passes}
use lib.Dec.{T, leb, ltb, eqb}
use lib.ListN.{length}
use Rattle.laws.specs.Big.{Bytes}
use Rattle.laws.specs.Ladder.{refusal}
use Rattle.laws.proofs.Tests.{or_off}
use Rattle.laws.proofs.Ladders.{quiet}
use Rattle.frame.specs.{declared.Message.{Message}, Message.{msg, counted, known, last_counter}, Frame.{mark, size, frame, fields_of, form_rows}}
use Rattle.frame.proofs.Frames.{fields_frame}
use Rattle.calls.specs.{declared.Own.{Own}, declared.Own.TheVariants.{Taking, Returning}, Own.{row_of}, View.{View, acks}, Table.{phase_tests, own_tests, served, sender_tests, turn_tests, receive_tests}}

-- every own call sends a message that frames know, that is settled and counted, and has a number for another phase
pub own_known : (o : Own) → T (known (row_of o).kind)
own_known Taking = tt
own_known Returning = tt

pub own_counted_lem : (o : Own) (p c : ℕ) → T (counted (msg (row_of o).kind p c))
own_counted_lem Taking p c = tt
own_counted_lem Returning p c = tt

-- an own message, sent in its phase
pub record Speaks (o : Own) (v : View) (n : ℕ) : Type 0 where
  pub phase : v.phase ≡ (row_of o).from
  pub clock : v.clock < last_counter
  pub room : size ≤ n

pub own_passed : (o : Own) (v : View) (n : ℕ) → refusal (own_tests o v n) ≡ 0 → Speaks o v n
unfolding phase_tests
own_passed o v n e =
    let q = quiet (own_tests o v n) (real o) e in
    record {
      phase = eqb-true v.phase (row_of o).from (not-false (eqb v.phase (row_of o).from) q.1.0);
      clock = leb-false last_counter v.clock q.1.1.0;
      room = ltb-false n size q.0;
    }
  where
    real : (o : Own) → T (ltb 0 (row_of o).other && true)
    real Taking = tt
    real Returning = tt

and_off : (a b : Bool) → a && b ≡ false → T a → b ≡ false
and_off true b e t = e
and_off false b e t = absurd t

-- a message that has come in
pub record Comes (v : View) (n : ℕ) (m : Message) : Type 0 where
  pub room : size ≤ n
  pub kind : T (served m.kind)
  pub other : m.sender ≡ v.start.own → ⊥
  pub sender : m.sender < v.start.posts
  pub new : v.last m.sender < m.counter
  pub clock : T (acks v m) → v.clock < last_counter
  pub counter : T (acks v m) → m.counter < last_counter
  pub few : T (counted m) → v.waits m.sender < 4

pub receive_passed : (v : View) (s : List ℕ) (n : ℕ) → refusal (receive_tests v s n) ≡ 0 → Comes v n (fields_of s).message
unfolding receive_tests form_rows sender_tests turn_tests
receive_passed v s n e =
    let q = quiet (receive_tests v s n) tt e in
    let r = q.1.1.1.1.1 in
    let m = (fields_of s).message in
    let from : (eqb m.sender v.start.own ≡ false) × (leb v.start.posts m.sender ≡ false) = or_off _ _ r.1.0 in
    let next : T (acks v m) → (leb last_counter v.clock ≡ false) × (leb last_counter m.counter ≡ false) =
    λ t. or_off _ _ (and_off (acks v m) _ r.1.1.1.1.0 t) in
    record {
      room = ltb-false n size q.0;
      kind = passes (served m.kind) (not-false (served m.kind) r.0);
      other = eqb-false m.sender v.start.own from.0;
      sender = leb-false v.start.posts m.sender from.1;
      new = leb-false m.counter (v.last m.sender) r.1.1.1.0;
      clock = λ t. leb-false last_counter v.clock (next t).0;
      counter = λ t. leb-false last_counter m.counter (next t).1;
      few = λ t. leb-false 4 (v.waits m.sender) (and_off (counted m) _ r.1.1.1.1.1.0 t);
    }

-- .. and the frame that brought it is its frame on the post's feeder
pub receive_frame : (v : View) (s : List ℕ) (n : ℕ) → Bytes s → refusal (receive_tests v s n) ≡ 0 → s ≡ frame v.start.feeder (fields_of s).message
unfolding receive_tests form_rows sender_tests turn_tests
receive_frame v s n b e =
    let f = fields_of s in
    let q = (quiet (receive_tests v s n) tt e).1 in
    fields_frame s b
    (eqb-true (length s) size (not-false _ q.0))
    (eqb-true f.mark mark (not-false _ q.1.0))
    (eqb-true f.version 1 (not-false _ q.1.1.0))
    ∙ ap (λ (x : ℕ). frame x f.message) (eqb-true f.feeder v.start.feeder (not-false _ q.1.1.1.0))
