-- A post's settled list only grows at its end, numbers stay, and what is free stays free. Assumes nothing.
use mathlib.Core.Path.{◌≡◌, ap}
use mathlib.Core.Logic.{◌⊎◌, inl, inr, ⊎_elim}
use Prim.Native.Nat.{ℕ, ◌≤◌, ◌<◌}
use native.Mathlib.Omega.{arith}
use lib.Dec.{T, leb→le, le→leb}
use Rattle.laws.specs.Lists.{In, keep, Begins, Rising, put}
use Rattle.laws.proofs.Tests.{cond_both}
use Rattle.laws.proofs.ListLaws.{in_keep, keep_in, begins_in, begins_keep, begins_length}
use Rattle.laws.proofs.RisingLaws.{begins_of, in_put, put_in, upto_begins, top_mono}
use Rattle.frame.specs.declared.Message.{Message}
use Rattle.frame.specs.Message.{ack_kind, is_take, is_return, known, stamp, by}
use Rattle.frame.specs.Frame.{fields_of}
use Rattle.calls.specs.Own.{row_of}
use Rattle.calls.proofs.Passing.{own_known}
use Rattle.calls.specs.declared.Start.{Start}
use Rattle.queue.specs.Queue.{Queue, last, heard, settled, takes, number, room, free}
use Rattle.calls.specs.Replies.{Call}
use Rattle.calls.specs.View.{acks}
use Rattle.queue.specs.Calls.{view, saying, say, accept}
use Rattle.queue.proofs.Good.{in_say, Sorted, New, say_above, sorted_say, sorted_new}
use Rattle.queue.proofs.Changes.{Change, unchanged, spoke, accepted}
use Rattle.queue.proofs.Heard.{heard_at, at_heard, settled_in, in_settled, settled_rising, takes_rising}

-- a later queue of the same post: it holds what the earlier one held, and what is new stands above all that was settled
pub record Later (st : Start) (q q' : Queue) : Type 0 where
  pub before : Rising stamp q
  pub after : Rising stamp q'
  pub keeps : (m : Message) → In m q → In m q'
  pub above : (m : Message) → In m q' → In m q ⊎ ((b : Message) → In b (settled st q) → stamp b < stamp m)

module _ (st : Start) (q q' : Queue) (l : Later st q q') where
  last_grows : (r : ℕ) → last r q ≤ last r q'
  unfolding last
  last_grows r =
      top_mono (λ m. m.counter) (keep (by r) q) (keep (by r) q')
      (λ m i. let k = keep_in (by r) m q i in in_keep (by r) m q' (l.keeps m k.0) k.1)

  pub heard_grows : (m : Message) → T (heard st q m) → T (heard st q' m)
  heard_grows m h = at_heard st q' m (λ r lr d. let a = heard_at st q m h r lr d in let b = last_grows r in omega arith)

  pub settled_grows : Begins (settled st q) (settled st q')
  settled_grows =
      begins_of stamp (settled st q) (settled st q') (settled_rising st q l.before) (settled_rising st q' l.after)
      (λ a i. let x = settled_in st q a i in in_settled st q' a (l.keeps a x.0) x.1 (heard_grows a x.2))
      (λ a b i j le.
      let x = settled_in st q' a i in
      let y = settled_in st q b j in
      ⊎_elim
      (λ k. in_settled st q a k x.1 (at_heard st q a (λ r lr d. let z = heard_at st q b y.2 r lr d in omega arith)))
      (λ k. absurd (let z = k b j in omega arith))
      (l.above a x.0))

  pub number-stays : (m : Message) → In m (takes st q) → number st q' m ≡ number st q m
  number-stays m i =
      let b = begins_keep is_take (settled st q) (settled st q') settled_grows in
      upto_begins stamp (takes st q) (takes st q') b (takes_rising st q' l.after) m i

  pub room_grows : room st q ≤ room st q'
  unfolding room
  room_grows =
      let b = begins_keep is_return (settled st q) (settled st q') settled_grows in
      let c = begins_length (keep is_return (settled st q)) (keep is_return (settled st q')) b in
      omega arith

  pub free_grows : (m : Message) → In m (takes st q) → T (free st q m) → T (free st q' m)
  unfolding free
  free_grows m i f =
      let a = number-stays m i in
      let b = room_grows in
      let c = leb→le (number st q m) (room st q) f in
      le→leb (number st q' m) (room st q') (omega arith)

-- ---- the calls

later_trans : (st : Start) (q r t : Queue) → Later st q r → Later st r t → Later st q t
later_trans st q r t k l = record {
  before = k.before;
  after = l.after;
  keeps = λ m i. l.keeps m (k.keeps m i);
  above = λ m i. ⊎_elim (k.above m) (λ h. inr (λ b j. h b (begins_in b (settled st q) (settled st r) (settled_grows st q r k) j))) (l.above m i);
}

pub later_say : (st : Start) (q : Queue) → Sorted st q → (kind : ℕ) → T (known kind) → Later st q (say st kind q)
unfolding say
later_say st q g kind k = record {
  before = g.rising;
  after = (sorted_say st q g kind k).rising;
  keeps = λ m i. put_in stamp (saying st kind q) m q (inr i);
  above = λ m i.
      ⊎_elim
      (λ e. inr (λ b j. let h = say_above st q g kind b (settled_in st q b j).0 in let c = ap stamp e in omega arith))
      inl
      (in_say st kind q m i);
}

module _ (st : Start) (q : Queue) (g : Sorted st q) where
  later_new : (m : Message) → New st q m → Later st q (put stamp m q)
  later_new m w = record {
    before = g.rising;
    after = (sorted_new st q g m w).rising;
    keeps = λ x i. put_in stamp m x q (inr i);
    above = λ x i.
        ⊎_elim
        (λ e. inr (λ b j.
        let h = heard_at st q b (settled_in st q b j).2 m.sender w.proper.sender w.other in
        let c = ap stamp e in
        let a = w.above in
        omega arith))
        inl
        (in_put stamp m x q i);
  }

  pub later_accept : (m : Message) → New st q m → Later st q (accept st q m)
  unfolding accept
  later_accept m w =
      let p = put stamp m q in
      let l = later_new m w in
      cond_both (Later st q) (acks (view st q) m) (say st ack_kind p) p (λ y. later_trans st q p (say st ack_kind p) l (later_say st p (sorted_new st q g m w) ack_kind tt)) (λ n. l)

  pub later : (c : Call) (q' : Queue) → Change st q c q' → Later st q q'
  later c q' unchanged = record { before = g.rising; after = g.rising; keeps = λ m i. i; above = λ m i. inl i }
  later c q' (spoke {o = o} z l) = later_say st q g (row_of o).kind (own_known o)
  later c q' (accepted {s = s} w) = later_accept (fields_of s).message w
