use mathlib.Core.Path.{◌≡◌, refl, ap, ◌∙◌}
use Prim.Native.Nat.{ℕ, min}
use native.Mathlib.Omega.{arith}
use borrow.Author.Tests.{eq-eqb, ne_eqb}
use Rattle.laws.specs.Below.{least_to}
use Rattle.laws.proofs.Ladders.{on, off}
use Rattle.laws.proofs.ScanLaws.{least_to_turn}
use Rattle.frame.specs.Message.{stamp_of}
use Rattle.post.specs.Record.{last_of, floor}
use Rattle.post.proofs.Post.floor.Goals as goal
use Rattle.post.proofs.Post.floor.Goals.{then-q-self, else-q-self}

pub loop-q-init : goal.loop-q-init
unfolding least_to
loop-q-init c = refl

pub loop-q-preserved : goal.loop-q-preserved
loop-q-preserved c =
    let l = c.loop-q in
    let turn = least_to_turn c.args.self.now.own _ (λ x. stamp_of (last_of c.args.self.now x) x) l.q l.invariant in
    elim c.if-q-self.branch [
      | then-q-self w ↦ turn (off _ _ _ (ne_eqb _ _ w.if-q-self.true) (w.least-is ∙ w.min-least.ensures ∙ ap (λ (x : ℕ). min x l.least) w.stamp.ensures))
      | else-q-self w ↦ turn (on _ _ _ (eq-eqb _ _ w.if-q-self.false) w.least-is)
    ]

pub returns : goal.returns
unfolding floor
returns c = let e : c.loop-q.q ≡ c.args.self.now.posts = omega arith in rw e at c.loop-q.invariant
