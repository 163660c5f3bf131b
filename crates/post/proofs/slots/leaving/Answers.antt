-- The invariant says what has been counted and what is still to come (`Leaves`). Assumes nothing.
use borrow.Author.Rules.{rules}
use Prim.Native.Nat.{ℕ, ◌<◌, ◌+◌, ◌≤◌}
use mathlib.Core.Path.{subst}
use mathlib.Core.List.{List, ◌∷◌}
use native.Mathlib.Omega.{arith}
use lib.ListN.{length, get_or, drop}
use Rattle.laws.proofs.ScanLaws.{next_drop}
use Rattle.std.proofs.lemmas.List.{drop_all}
use Rattle.frame.specs.Message.{blank, stamp}
use Rattle.post.proofs.Works.Leaving.{Leaves, ended, stopped, own_takes, other_takes, returns, neither, small}
use Rattle.frame.specs.declared.Message.{Message}
use Rattle.post.specs.declared.slots.Gone.{Gone}
use Rattle.post.proofs.slots.leaving.Goals as goal
use Rattle.post.proofs.slots.leaving.Goals.{then-m+then-m-own, then-m+else-m-own, else-m+then-m-2, else-m+else-m-2}

-- the message that is looked at, and those after it
leaves : {own takes floor : ℕ} (ws : List Message) {i : ℕ} {g : Gone} → i < length ws
    → Leaves own takes floor ws (drop i ws) g → Leaves own takes floor ws (get_or ws i blank ∷ drop (i + 1) ws) g
leaves {own = own} {takes = takes} {floor = floor} ws {i = i} {g = g} h = subst (λ r. Leaves own takes floor ws r g) (next_drop ws i blank h)

pub overflow_add-gone : goal.overflow_add-gone
overflow_add-gone c = let s = small _ _ _ _ c.requires.1 c.requires.0 c.loop-m.invariant in search rules

pub overflow_add-gone-then-m : goal.overflow_add-gone-then-m
overflow_add-gone-then-m c = let s = small _ _ _ _ c.requires.1 c.requires.0 c.loop-m.invariant in search rules

pub overflow_add-gone-then-m-2 : goal.overflow_add-gone-then-m-2
overflow_add-gone-then-m-2 c = let s = small _ _ _ _ c.requires.1 c.requires.0 c.loop-m.invariant in search rules

pub returns-then-floor-stamp : goal.returns-then-floor-stamp
returns-then-floor-stamp c = stopped _ _ _ _ (leaves c.args.waiting.now (omega arith) c.loop-m.invariant) (let e = c.stamp.ensures in omega arith)

pub loop-m-preserved : goal.loop-m-preserved
loop-m-preserved c =
    let h : stamp (get_or c.args.waiting.now c.loop-m.m-index blank) ≤ c.args.floor = (let e = c.stamp.ensures in omega arith) in
    let v = leaves c.args.waiting.now (omega arith) c.loop-m.invariant in
    elim c.if-m.branch [
      | then-m+then-m-own w ↦ rw w.gone-is (own_takes _ _ _ _ v h w.if-m.true w.if-m-own.true w.or-gone.ensures)
      | then-m+else-m-own w ↦ rw w.gone-is (other_takes _ _ _ _ v h w.if-m.true w.if-m-own.false)
      | else-m+then-m-2 w ↦ rw w.gone-is (returns _ _ _ _ v h w.if-m-2.true)
      | else-m+else-m-2 w ↦ rw w.gone-is (neither _ _ _ _ v h w.if-m.false w.if-m-2.false)
    ]

pub returns-after-loop-m : goal.returns-after-loop-m
returns-after-loop-m c = ended _ _ _ _ (subst (λ r. Leaves c.args.own c.args.takes c.args.floor c.args.waiting.now r c.loop-m.gone) (drop_all c.loop-m.m-index c.args.waiting.now (omega arith)) c.loop-m.invariant)
