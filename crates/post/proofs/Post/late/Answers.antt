use Prim.Native.Nat.{ℕ}
use mathlib.Core.Path.{refl, ◌∙◌, sym}
use mathlib.Core.Bool.{Bool, true, false, not, ◌&&◌}
use native.Mathlib.Omega.{arith}
use native.Mathlib.Nat.{zero-add}
use borrow.Author.Tests.{eq-eqb, ne_eqb, lt-ltb, le-ltb}
use lib.Dec.{eqb, ltb}
use Rattle.laws.specs.Below.{sum_to}
use Rattle.laws.proofs.BitLaws.{bits_lt, bit_set}
use Rattle.laws.proofs.Ladders.{not_on, not_off, both_on, one_off, two_off}
use Rattle.laws.proofs.ScanLaws.{bits_to_turn}
use Rattle.frame.specs.Message.{stamp_of}
use Rattle.post.specs.Record.{last_of}
use Rattle.post.proofs.Post.late.Goals as goal
use Rattle.post.proofs.Post.late.Goals.{then-q-self+then-stamp-t, else-q-self, else-q-self-via-then-q-self+else-stamp-t, else-q-self-via-else-q-self}

pub loop-q-init : goal.loop-q-init
unfolding sum_to
loop-q-init c = refl

pub loop-q-preserved : goal.loop-q-preserved
loop-q-preserved c =
    let l = c.loop-q in
    let p = c.args.self.now in
    let late : ℕ → Bool = λ x. not (eqb x p.own) && ltb (stamp_of (last_of p x) x) c.args.t in
    let stamp = stamp_of (last_of p l.q) l.q in
    elim c.if-q-self.branch [
      | then-q-self+then-stamp-t w ↦ bits_to_turn late l.q true l.invariant (both_on _ _ (not_on _ (ne_eqb _ _ w.if-q-self.true)) (lt-ltb stamp c.args.t (let e = w.stamp.ensures in omega arith)))
          (w.set-is ∙ bit_set 16 l.q l.set (omega arith) (rw l.invariant (bits_lt late l.q)))
      | else-q-self w ↦ bits_to_turn late l.q false l.invariant
          (elim w.else-q-self.branch [
            | else-q-self-via-then-q-self+else-stamp-t v ↦ two_off _ _ (le-ltb stamp c.args.t (let e = v.stamp.ensures in omega arith))
            | else-q-self-via-else-q-self v ↦ one_off _ _ (not_off _ (eq-eqb _ _ v.if-q-self.false))
          ])
          (w.set-is ∙ sym (zero-add l.set))
    ]
