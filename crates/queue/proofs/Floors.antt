-- What is heard is what is at or below the floor. Assumes nothing.
use mathlib.Core.Logic.{◌↔◌}
use Prim.Native.Nat.{◌^◌, ◌≤◌}
use native.Mathlib.Omega.{arith}
use lib.Dec.{T}
use Rattle.laws.specs.Lists.{In}
use Rattle.laws.proofs.LeastLaws.{least_le, le_least}
use Rattle.frame.specs.declared.Message.{Message}
use Rattle.frame.specs.Message.{last_counter, stamp}
use Rattle.calls.specs.declared.Start.{Start}
use Rattle.queue.specs.Queue.{Queue, clock, last_stamp, floor_of, heard}
use Rattle.queue.proofs.Good.{Sorted, le_clock}
use Rattle.queue.proofs.Heard.{heard_at, at_heard}

pub heard-floor : (st : Start) (q : Queue) → Sorted st q → clock q ≤ last_counter → (m : Message) → In m q → T (heard st q m) ↔ (stamp m ≤ floor_of st q)
heard-floor st q g w m i =
    let a = le_clock q m i in
    let b = (g.proper m i).sender in
    let c = g.fit.few in (
      λ h. le_least st.own (2 ^ 40) (λ r. last_stamp r q) st.posts (stamp m) (omega arith) (heard_at st q m h),
      λ h. at_heard st q m (λ r l d. let e = least_le st.own (2 ^ 40) (λ x. last_stamp x q) st.posts r l d in omega arith),
    )
