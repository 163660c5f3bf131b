-- The invariant says what has been found and what is still to be looked at (`Going`). Assumes nothing.
use borrow.Author.Rules.{rules}
use Prim.Native.Nat.{ℕ, ◌≤◌}
use mathlib.Core.Path.{◌≡◌, refl, ◌∙◌, sym}
use mathlib.Core.Bool.{Bool, true}
use mathlib.Core.List.{List}
use native.Mathlib.Omega.{arith}
use denote.Floats.{passes}
use borrow.Author.Tests.{eq-eqb, ne_eqb}
use lib.ListN.{length, get_or, take}
use Rattle.frame.specs.declared.Message.{Message}
use Rattle.frame.specs.Message.{blank}
use Rattle.post.specs.Sound.{fair}
use Rattle.post.proofs.Sound.Facts.{Fair, fair_is}
use Rattle.post.proofs.Works.Looking.{fair_first, else_return, broken, here, none_left, unfair, low, takes_small, returns_small, each_small, turned, right, found, looked}
use Rattle.post.proofs.Post.look.Goals as goal
use Rattle.post.proofs.Post.look.Goals.{then-not-is_fair-via-then-not-is_fair, then-not-is_fair-via-else-not-is_fair+then-t-top, then-m-self, then-m, else-m, else-m-self}

-- what a fair message has
has : (posts : ℕ) (last : List ℕ) (m : Message) {r : Bool} → posts ≤ length last → r ≡ fair (length (take posts last)) (take posts last) m → r ≡ true → Fair posts last m
has posts last m h e y = fair_is posts last m (passes _ (sym (fair_first posts last m h) ∙ sym e ∙ y))

pub returns-then-not-is_fair : goal.returns-then-not-is_fair
returns-then-not-is_fair c =
    let p = c.args.self.now in
    let h : 16 ≤ length p.last = search rules in
    broken _ _ c.split_at.ensures.front
    (elim c.then-not-is_fair.branch [
      | then-not-is_fair-via-then-not-is_fair w ↦ unfair _ _ _ _ _ (here _ _ _ _ _ c.loop-m-test.true c.loop-m.invariant)
          (sym (fair_first p.posts p.last _ (omega arith)) ∙ sym c.is_fair.ensures ∙ w.if-not-is_fair.true)
      | then-not-is_fair-via-else-not-is_fair+then-t-top w ↦ low _ _ _ _ _ (here _ _ _ _ _ c.loop-m-test.true c.loop-m.invariant) (let e = c.stamp-t.ensures in omega arith)
    ])

pub bounds-seen-m : goal.bounds-seen-m
bounds-seen-m c =
    let p = c.args.self.now in
    let h : 16 ≤ length p.last = search rules in
    let f = has p.posts p.last _ (omega arith) c.is_fair.ensures c.if-not-is_fair.false in omega arith

pub overflow_add-seen : goal.overflow_add-seen
overflow_add-seen c =
    let p = c.args.self.now in
    let h : 16 ≤ length p.last = search rules in
    let f = has p.posts p.last _ (omega arith) c.is_fair.ensures c.if-not-is_fair.false in
    let g = each_small _ _ _ _ _ (here _ _ _ _ _ c.loop-m-test.true c.loop-m.invariant) (omega arith) (get_or c.split_at.result.0.now c.loop-m.m-index blank).sender (omega arith) in
    record { fits = omega arith }

pub bounds-seen-m-in-loop-m : goal.bounds-seen-m-in-loop-m
bounds-seen-m-in-loop-m c =
    let p = c.args.self.now in
    let h : 16 ≤ length p.last = search rules in
    let f = has p.posts p.last _ (omega arith) c.is_fair.ensures c.if-not-is_fair.false in omega arith

pub overflow_add-seen-then-m : goal.overflow_add-seen-then-m
overflow_add-seen-then-m c =
    let h = takes_small _ _ _ _ _ (here _ _ _ _ _ c.loop-m-test.true c.loop-m.invariant) (omega arith) in record { fits = omega arith }

pub overflow_add-seen-else-m : goal.overflow_add-seen-else-m
overflow_add-seen-else-m c =
    let h = returns_small _ _ _ _ _ (here _ _ _ _ _ c.loop-m-test.true c.loop-m.invariant) (omega arith) in record { fits = omega arith }

pub loop-m-preserved : goal.loop-m-preserved
loop-m-preserved c =
    let p = c.args.self.now in
    let m = get_or c.split_at.result.0.now c.loop-m.m-index blank in
    let h : 16 ≤ length p.last = search rules in
    let fit = sym (fair_first p.posts p.last m (omega arith)) ∙ sym c.is_fair.ensures ∙ c.if-not-is_fair.false in
    let f = fair_is p.posts p.last m (passes _ fit) in
    let turn = turned _ _ _ _ _ (here _ _ _ _ _ c.loop-m-test.true c.loop-m.invariant) fit (omega arith) c.stamp-t.ensures c.if-t-top.false in
    elim c.if-m-self.branch [
      | then-m-self w ↦ let y = eq-eqb m.sender p.own w.if-m-self.true in
          elim w.if-m.branch [
            | then-m v ↦ rw (w.seen-is, v.seen-is) (turn _ refl (rw (y, v.if-m.true)) (rw (y, v.if-m.true) (omega arith)) (rw y))
            | else-m v ↦ let k = else_return m f.kind v.if-m.false in rw (w.seen-is, v.seen-is) (turn _ refl (rw (y, k) (omega arith)) (rw (y, k)) (rw y))
          ]
      | else-m-self w ↦ let y = ne_eqb m.sender p.own w.if-m-self.false in rw w.seen-is (turn _ refl (rw y (omega arith)) (rw y (omega arith)) (rw y))
    ]

pub returns : goal.returns
returns c =
    let g = none_left _ _ _ _ _ c.loop-m-test.false c.loop-m.invariant in
    rw c.then_some.ensures (looked _ _ c.split_at.ensures.front c.split_at.ensures.back c.are_blank.ensures _ (right _ _ _ _ _ g) (found _ _ _ _ _ g))
