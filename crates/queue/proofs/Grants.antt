-- The granted takes are one more exactly after a call that gives the grant mark, and the own latest is then a take. Assumes nothing.
use mathlib.Core.Path.{◌≡◌, ap, subst}
use mathlib.Core.Bool.{not}
use Prim.Native.Nat.{◌+◌}
use native.Mathlib.Omega.{arith}
use lib.Dec.{T}
use lib.ListN.{length, length-append}
use Rattle.laws.specs.Below.{one?}
use Rattle.laws.proofs.Tests.{and_r}
use Rattle.frame.specs.Message.{is_take}
use Rattle.calls.specs.declared.Start.{Start}
use Rattle.queue.specs.Queue.{Queue, grants, latest}
use Rattle.calls.specs.Replies.{Call}
use Rattle.queue.specs.Calls.{grant_came, on_queue}
use Rattle.queue.specs.Demand3.{marked}
use Rattle.queue.proofs.Changes.{change}
use Rattle.queue.proofs.Grow.{later}
use Rattle.queue.proofs.Granted.{grants_in, holding-latest}
use Rattle.queue.proofs.Marks.{holds, mark_list, step, grants_step, mark-came}
use Rattle.queue.proofs.Holding.{Kept, marks_one}

pub grants-after : (st : Start) (q : Queue) → Kept st q → (c : Call)
    → let a = on_queue st q c in length (grants st a.next) ≡ length (grants st q) + one? (marked a.reply)
grants-after st q k c =
    let q' = (on_queue st q c).next in
    let d = change st q c in
    let l = later st q k.good.sorted c q' d in
    let a = ap length (grants_step st q q' l (step st q k.good c q' d k.paid)) in
    let b = length-append (grants st q) (mark_list st q q') in
    let m = marks_one st q q' in
    let o = ap one? (mark-came st q c) in
    omega arith

pub marked-take : (st : Start) (q : Queue) (c : Call) → let a = on_queue st q c in T (marked a.reply) → T (is_take (latest st a.next))
unfolding grant_came
marked-take st q c y =
    let q' = (on_queue st q c).next in
    let z = and_r (not (holds st q)) _ (subst T (mark-came st q c) y) in
    (grants_in st q' (latest st q') (holding-latest st q' z)).take
