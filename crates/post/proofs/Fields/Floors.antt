-- The floor: a stamp is heard exactly if it is at or below it, one of the other posts stands at it, and no call lowers it. Assumes nothing.
use mathlib.Core.Path.{◌≡◌, refl}
use mathlib.Core.List.{List}
use mathlib.Core.Logic.{◌↔◌}
use Prim.Native.Nat.{ℕ, ◌+◌, ◌^◌, ◌≤◌, ◌<◌}
use native.Mathlib.Omega.{arith}
use lib.ListN.{length, get_or, set}
use lib.Seq.{get_or-set_other}
use Rattle.laws.proofs.SetLaws.{set_up}
use Rattle.laws.proofs.Tests.{cond_both}
use Rattle.laws.proofs.RefusalLaws.{unless_both}
use Rattle.laws.proofs.LeastLaws.{least_le, le_least, least_mono}
use Rattle.frame.specs.declared.Message.{Message}
use Rattle.frame.specs.Message.{stamp_of, stamp}
use Rattle.frame.specs.Frame.{fields_of}
use Rattle.calls.specs.declared.Own.{Own}
use Rattle.calls.specs.View.{acks}
use Rattle.post.specs.declared.Post.{Post}
use Rattle.post.specs.Record.{last_of, floor, remade}
use Rattle.post.specs.Settle.{tallied, settle}
use Rattle.post.specs.Calls.{view_of, own_rows, receive_rows, spoken, clock_with, came, Outcome, stays, heard_from, spoke, received}
use Rattle.post.proofs.Works.Passed.{accepted}

pub heard-floor : (p : Post) (m : Message) → stamp m ≤ 2 ^ 40
    → (stamp m ≤ floor p) ↔ ((q : ℕ) → q < p.posts → (q ≡ p.own → ⊥) → stamp m ≤ stamp_of (last_of p q) q)
unfolding floor
heard-floor p m b = (
  λ h q l d. let a = least_le p.own (2 ^ 40) (λ r. stamp_of (last_of p r) r) p.posts q l d in omega arith,
  le_least p.own (2 ^ 40) (λ r. stamp_of (last_of p r) r) p.posts (stamp m) b,
)

pub floor-settle : (p : Post) → floor (settle p) ≡ floor p
unfolding floor settle tallied
floor-settle p = refl

-- ---- the calls

-- last counters of other posts that do not fall leave the floor as high
floor_up : (p r : Post) → r.posts ≡ p.posts → r.own ≡ p.own → ((q : ℕ) → q < p.posts → (q ≡ p.own → ⊥) → last_of p q ≤ last_of r q)
    → floor p ≤ floor (settle r)
unfolding floor settle tallied
floor_up p r e d h =
    rw (e, d) (least_mono p.posts p.own (2 ^ 40) (λ q. stamp_of (last_of p q) q) (λ q. stamp_of (last_of r q) q) (λ q l o. let a = h q l o in omega arith))

-- whether it is refused or not
pub spoke-floor : (o : Own) (p : Post) (lent : List ℕ) → floor p ≤ floor (spoke o p lent).gives.post
unfolding spoken remade
spoke-floor o p lent =
    unless_both (λ (x : Outcome). floor p ≤ floor x.gives.post) (own_rows o p (length lent)) (stays p lent) _
    (λ z. floor_up p (spoken o p) refl refl (λ q l d. let e = get_or-set_other p.last p.own q (p.clock + 1) 0 d in omega arith))
    (λ n z. omega arith)

pub received-floor : (p : Post) (s lent : List ℕ) → floor p ≤ floor (received p s lent).gives.post
unfolding heard_from came remade
received-floor p s lent =
    unless_both (λ (o : Outcome). floor p ≤ floor o.gives.post) (receive_rows p s (length lent)) (stays p lent) _
    (λ z. let m = (fields_of s).message in
    let a = (accepted p s (length lent) z).1.new in
    let heard = set p.last m.sender m.counter in
    let up : (q : ℕ) → last_of p q ≤ get_or heard q 0 = set_up p.last m.sender m.counter (omega arith) in
    floor_up p (came p m) refl refl (λ q l d.
    cond_both (λ (ls : List ℕ). last_of p q ≤ get_or ls q 0) (acks (view_of p) m) (set heard p.own (clock_with p m)) heard
    (λ y. let e = get_or-set_other heard p.own q (clock_with p m) 0 d in let b = up q in omega arith)
    (λ n. up q)))
    (λ n z. omega arith)
