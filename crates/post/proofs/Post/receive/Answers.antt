-- A row refuses; or the message is put among the waiting and acknowledged; or it is an acknowledgment itself. Assumes nothing.
use borrow.Author.Rules.{rules}
use mathlib.Core.Path.{◌≡◌, refl, ◌∙◌, subst, sym}
use mathlib.Core.List.{List}
use mathlib.Core.Bool.{false}
use Prim.Native.Nat.{ℕ}
use native.Mathlib.Omega.{arith}
use denote.Floats.{passes}
use lib.Dec.{T}
use lib.ListN.{length}
use Rattle.std.specs.Prelude.{Ok}
use Rattle.laws.proofs.ListLaws.{length_mapped}
use Rattle.laws.proofs.Ladders.{on, off}
use Rattle.frame.specs.declared.Message.{Message}
use Rattle.frame.specs.Message.{counted}
use Rattle.calls.specs.View.{View, acks}
use Rattle.calls.proofs.Passing.{Comes}
use Rattle.post.specs.declared.Post.{Post}
use Rattle.post.specs.Sound.{sound}
use Rattle.post.specs.Calls.{view_of, receive_rows, came, Gives, heard_from}
use Rattle.post.specs.Inside.{noted, Arrives}
use Rattle.post.proofs.Fields.Shape.{Kept}
use Rattle.post.proofs.Works.Passed.{accepted}
use Rattle.post.proofs.Works.Answering.{came_countable, noted-came, not_done, is_done, is_heard}
use Rattle.post.proofs.Post.receive.Goals as goal
use Rattle.post.proofs.Post.receive.Goals.{then-acknowledged, else-acknowledged}

-- what is acknowledged is what waits, and nothing else
acked_waits : (v : View) (m : Message) → acks v m ≡ counted m
unfolding acks
acked_waits v m = refl

is_noted : (p : Post) (m : Message) → acks (view_of p) m ≡ false → {next : Post} → next ≡ noted p m → next ≡ came p m
is_noted p m f = noted-came p m (sym (acked_waits (view_of p) m) ∙ f) f

-- once nothing refuses, the message is the frame's, and no row was against it
good : (p : Post) (s : List ℕ) (n : ℕ) (m : Message) → Arrives p s n (Ok m) → T (sound p) × Comes (view_of p) n m
good p s n m w = let g = accepted p s n (sym w.number) in (g.0, rw w.message g.1)

pub returns-in-Err : goal.returns-in-Err
returns-in-Err c =
    let a = c.args in
    not_done a.self (receive_rows a.self a.frame.now (length a.buf.now)) _ _ c.in-Err.refusal (c.in-Err.ensures).number c.refused.ensures

pub accept-requires : goal.accept-requires
accept-requires c =
    let g = good c.args.self c.args.frame.now (length c.args.buf.now) c.in-Ok.m c.in-Ok.ensures in
    let y = passes _ (sym c.acknowledges-acknowledged.ensures ∙ c.if-acknowledged.true) in
    let k = g.1.clock y in
    let l = g.1.counter y in
    (g.0, g.1.sender, subst T (acked_waits _ _) y, y, omega arith, g.1.room)

pub note-requires : goal.note-requires
note-requires c = let g = good c.args.self c.args.frame.now (length c.args.buf.now) c.in-Ok.m c.in-Ok.ensures in (g.0, g.1.sender)

pub settled-requires : goal.settled-requires
settled-requires c =
    let p = c.args.self in
    let g = good p c.args.frame.now (length c.args.buf.now) c.in-Ok.m c.in-Ok.ensures in
    let k : Kept p = record { sound = g.0; shape = record { last = search rules; slots = search (length_mapped, rules) }; width = search rules } in
    came_countable p k c.in-Ok.m
    (elim c.if-acknowledged.branch [
      | then-acknowledged w ↦ w.self-is ∙ w.accept.ensures.joins
      | else-acknowledged w ↦ w.self-is ∙ is_noted p _ (sym c.acknowledges-acknowledged.ensures ∙ w.if-acknowledged.false) w.note.ensures
    ])

pub returns : goal.returns
returns c =
    let p = c.args.self in
    let lent = c.args.buf.now in
    let e = c.in-Ok.ensures in
    let y = c.acknowledges-acknowledged.ensures in
    is_done p (receive_rows p c.args.frame.now (length lent)) _ _ e.number
    (subst (λ (m : Message). Gives (heard_from p m lent) c.settled.result c.if-acknowledged.buf) e.message
    (elim c.if-acknowledged.branch [
      | then-acknowledged w ↦ is_heard p _ lent (w.self-is ∙ w.accept.ensures.joins) (w.buf-is ∙ w.accept.ensures.leaves ∙ on _ _ _ (sym y ∙ w.if-acknowledged.true) refl) y c.settled.ensures
      | else-acknowledged w ↦ is_heard p _ lent (w.self-is ∙ is_noted p _ (sym y ∙ w.if-acknowledged.false) w.note.ensures) (w.buf-is ∙ off _ _ _ (sym y ∙ w.if-acknowledged.false) refl) y c.settled.ensures
    ]))
