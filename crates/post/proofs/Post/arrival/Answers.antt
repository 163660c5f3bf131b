-- Each return is a row of the table that applies, after those that do not; the last hands on the message that was split off. Assumes nothing.
use Prim.Native.Nat.{◌<◌}
use mathlib.Core.Path.{sym, refl}
use native.Mathlib.Omega.{arith}
use borrow.Author.Tests.{lt-ltb, eq-eqb, ne_eqb}
use denote.Floats.{passes}
use lib.Dec.{T}
use Rattle.std.proofs.lemmas.Result.{err_from_is_err_and}
use Rattle.laws.proofs.Ladders.{on, off, not_on, not_off}
use Rattle.calls.specs.Table.{receive_tests}
use Rattle.post.specs.Sound.{sound}
use Rattle.post.specs.Calls.{receive_rows}
use Rattle.post.proofs.Sound.Facts.{sound_has}
use Rattle.post.proofs.Works.Rows.{refuses, no_form, elsewhere, no_sender, sent-by, on_feeder}
use Rattle.frame.specs.declared.Message.{Message}
use Rattle.frame.specs.declared.refusal.Refusal.TheVariants.{Record, Buffer, Feeder}
use Rattle.frame.proofs.Refusals.{not_zero}
use Rattle.post.specs.declared.Post.{Post}
use Rattle.post.proofs.Post.arrival.Goals as goal

-- the record is sound, and the sender one of its posts
known : (p : Post) (m : Message) → T (sound p) → m.sender < p.posts → T (sound p) × (m.sender < p.posts) × (m.sender < 16)
known p m t l = let h = (sound_has _ t).range.posts_high in (t, l, omega arith)

pub returns-in_default : goal.returns-in_default
unfolding receive_rows
returns-in_default c = refuses Record (on _ _ _ (not_on _ c.in_default.ensures) refl)

pub returns-then-len-lt-FRAME : goal.returns-then-len-lt-FRAME
unfolding receive_rows receive_tests
returns-then-len-lt-FRAME c = refuses Buffer (off _ _ _ (not_off _ c.in-Some.ensures.0) (on _ _ _ (lt-ltb _ _ c.if-len-lt-FRAME.true) refl))

pub returns-in_err-check_form : goal.returns-in_err-check_form
returns-in_err-check_form c =
    let p = err_from_is_err_and c.from_residual.result c.from_residual.ensures.1 in
    rw (p.1, p.2) (refuses _ (no_form _ _ _ _ c.split-f.ensures (not_off _ c.in-Some.ensures.0) c.if-len-lt-FRAME.false c.in_err-check_form.ensures (not_zero _)))

pub returns-then-f-self : goal.returns-then-f-self
returns-then-f-self c =
    refuses Feeder (elsewhere _ _ _ _ c.split-f.ensures (not_off _ c.in-Some.ensures.0) c.if-len-lt-FRAME.false c.in_ok-check_form.ensures refl (not_on _ (ne_eqb _ _ c.if-f-self.true)))

pub returns-in_err-check_sender : goal.returns-in_err-check_sender
returns-in_err-check_sender c =
    let p = err_from_is_err_and c.from_residual-in_err-check_sender.result c.from_residual-in_err-check_sender.ensures.1 in
    rw (p.1, p.2) (refuses _ (no_sender _ _ _ _ c.split-f.ensures (not_off _ c.in-Some.ensures.0) c.if-len-lt-FRAME.false c.in_ok-check_form.ensures refl (not_off _ (eq-eqb _ _ c.if-f-self.false)) c.in_err-check_sender.ensures (not_zero _)))

pub bounds-seen-m : goal.bounds-seen-m
bounds-seen-m c = (known c.args.self.now c.split-f.result.message (passes _ c.in-Some.ensures.0) (on_feeder _ _ (sym c.in_ok-check_sender.ensures))).2

pub check_turn-requires : goal.check_turn-requires
check_turn-requires c = let k = known c.args.self.now c.split-f.result.message (passes _ c.in-Some.ensures.0) (on_feeder _ _ (sym c.in_ok-check_sender.ensures)) in (k.0, k.1, c.in-Some.ensures.1.counts _ k.2)

pub returns-in_err-check_turn : goal.returns-in_err-check_turn
returns-in_err-check_turn c =
    let p = err_from_is_err_and c.from_residual-in_err-check_turn.result c.from_residual-in_err-check_turn.ensures.1 in
    rw (p.1, p.2) (refuses _ (sent-by _ _ _ _ c.split-f.ensures (not_off _ c.in-Some.ensures.0) c.if-len-lt-FRAME.false c.in_ok-check_form.ensures refl (not_off _ (eq-eqb _ _ c.if-f-self.false)) c.in_ok-check_sender.ensures refl c.in_err-check_turn.ensures))

pub returns : goal.returns
returns c =
    record {
      number = sent-by _ _ _ _ c.split-f.ensures (not_off _ c.in-Some.ensures.0) c.if-len-lt-FRAME.false c.in_ok-check_form.ensures refl (not_off _ (eq-eqb _ _ c.if-f-self.false)) c.in_ok-check_sender.ensures refl c.in_ok-check_turn.ensures;
      message = let e = c.split-f.ensures in λ i. (e i).message;
    }
