-- The record of a queue, part by part: last counters, what waits, the floor, and what the table sees. Assumes nothing.
use mathlib.Core.Path.{◌≡◌, refl, sym, ap, ◌∙◌}
use mathlib.Core.List.{List}
use Prim.Native.Nat.{ℕ, ◌-◌, ◌^◌}
use native.Mathlib.Omega.{arith}
use lib.Dec.{ltb, ltb→lt, nltb→le}
use lib.ListN.{length, take, replicate, get_or-eq_default}
use lib.Seq.{take_at}
use Rattle.laws.specs.Lists.{many}
use Rattle.laws.proofs.Tests.{test}
use Rattle.laws.proofs.LeastLaws.{least_cong}
use Rattle.frame.specs.declared.Message.{Message}
use Rattle.frame.specs.Message.{blank, stamp_of, by}
use Rattle.calls.specs.declared.Start.{Start}
use Rattle.queue.specs.Queue.{Queue, clock, last, last_stamp, floor_of, waiting, phase}
use Rattle.queue.specs.Calls.{view}
use Rattle.queue.proofs.Good.{Sorted}
use Rattle.queue.proofs.Clocks.{last_none}
use Rattle.post.specs.Record.{last_of, waiting_of, floor, in_slots}
use Rattle.post.specs.Calls.{view_of}
use Rattle.beside.specs.Image.{list_from, image}
use Rattle.beside.proofs.Listed.{length-list_from, list_from_at}

-- messages in slots come out again
pub in_slots_lem : (ms : List Message) → take (length ms) (in_slots ms) ≡ ms
in_slots_lem ms = take_at ms (replicate (62 - length ms) blank) (length ms) refl

module _ (st : Start) (q : Queue) where
  pub image-waiting : waiting_of (image st q) ≡ waiting st q
  unfolding image
  image-waiting = in_slots_lem (waiting st q)

  module _ (g : Sorted st q) where
    pub image-last : (r : ℕ) → last_of (image st q) r ≡ last r q
    unfolding image
    image-last r =
        let lasts = list_from 0 16 (λ x. last x q) in
        test (ltb r 16)
        (λ y. list_from_at 16 (λ x. last x q) r (ltb→lt r 16 y))
        (λ n.
        let h = nltb→le r 16 n in
        let e = length-list_from 0 16 (λ x. last x q) in
        let f = g.fit.few in
        get_or-eq_default lasts 0 (omega arith) ∙ sym (last_none st q g r (omega arith)))

    pub image-floor : floor (image st q) ≡ floor_of st q
    unfolding floor image
    image-floor = least_cong st.posts st.own (2 ^ 40) _ (λ r. last_stamp r q) (λ r l. ap (λ (x : ℕ). stamp_of x r) (image-last r))

    -- the table sees of the record of a queue what it sees of the queue
    pub image-view : view_of (image st q) ≡ view st q
    unfolding image
    image-view = λ i. record {
      start = st;
      clock = clock q;
      phase = phase st q;
      last = λ r. image-last r i;
      waits = λ r. many (by r) (image-waiting i);
    }
