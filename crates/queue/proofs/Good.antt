-- What the queue of a post has, whatever calls were made: it is sorted by stamp, its messages are proper, and each take or return of another
-- post stands below a message of its own. Assumes nothing.
use mathlib.Core.List.{[]}
use mathlib.Core.Path.{◌≡◌, refl, sym, ap, subst}
use mathlib.Core.Logic.{◌⊎◌, inl, inr, ⊎_elim}
use Prim.Native.Nat.{ℕ, ◌≤◌, ◌<◌}
use native.Mathlib.Omega.{arith}
use lib.Dec.{T, T_not, eqb_refl}
use Rattle.laws.specs.Lists.{In, keep, many, Rising, put}
use Rattle.laws.proofs.Tests.{cond_both}
use Rattle.laws.proofs.ListLaws.{in_keep}
use Rattle.laws.proofs.RisingLaws.{in_put, put_in, rising_put, le_top}
use Rattle.frame.specs.declared.Message.{Message}
use Rattle.frame.specs.Message.{ack_kind, counted, known, last_counter, stamp, by}
use Rattle.calls.specs.declared.Start.{Start}
use Rattle.queue.specs.Queue.{Queue, clock, last, waiting}
use Rattle.calls.specs.View.{acks}
use Rattle.queue.specs.Calls.{view, saying, say, accept}

-- a post of a feeder, which has at most 16
pub record Fit (st : Start) : Type 0 where
  pub few : st.posts ≤ 16
  pub mine : st.own < st.posts

-- a message as a post may send it
pub record Proper (st : Start) (m : Message) : Type 0 where
  pub sender : m.sender < st.posts
  pub counter : 0 < m.counter
  pub kind : T (known m.kind)

-- sorted by stamp
pub record Sorted (st : Start) (q : Queue) : Type 0 where
  pub fit : Fit st
  pub rising : Rising stamp q
  pub proper : (m : Message) → In m q → Proper st m

-- an own message stands above it
abbrev pub Topped : Start → Queue → Message → Type 0
Topped st q m = (a : Message) × In a q × (a.sender ≡ st.own) × (stamp m < stamp a)

pub record Good (st : Start) (q : Queue) : Type 0 where
  pub sorted : Sorted st q
  pub topped : (m : Message) → In m q → T (counted m) → (m.sender ≡ st.own → ⊥) → Topped st q m

-- a proper message of another post, with a counter above that post's last, and of a take or return counters left for its acknowledgment and
-- fewer than 4 of its sender waiting
pub record New (st : Start) (q : Queue) (m : Message) : Type 0 where
  pub other : m.sender ≡ st.own → ⊥
  pub proper : Proper st m
  pub above : last m.sender q < m.counter
  pub room : T (acks (view st q) m) → (clock q < last_counter) × (m.counter < last_counter)
  pub few : T (counted m) → many (by m.sender) (waiting st q) < 4

pub good_empty : (st : Start) → Fit st → Good st []
good_empty st fit = record { sorted = record { fit = fit; rising = tt; proper = λ m i. absurd i }; topped = λ m i. absurd i }

pub le_clock : (q : Queue) (m : Message) → In m q → m.counter ≤ clock q
unfolding clock
le_clock q m i = le_top (λ x. x.counter) m q i

pub le_last : (q : Queue) (m : Message) (r : ℕ) → In m q → m.sender ≡ r → m.counter ≤ last r q
unfolding last
le_last q m r i e =
    le_top (λ x. x.counter) m (keep (by r) q) (in_keep (by r) m q i (subst (λ (x : ℕ). T (by x m)) e (eqb_refl m.sender)))

pub in_say : (st : Start) (kind : ℕ) (q : Queue) (m : Message) → In m (say st kind q) → (m ≡ saying st kind q) ⊎ In m q
unfolding say
in_say st kind q m i = in_put stamp (saying st kind q) m q i

module _ (st : Start) (q : Queue) (g : Sorted st q) where
  -- what a post says stands above all that it has
  pub say_above : (kind : ℕ) (m : Message) → In m q → stamp m < stamp (saying st kind q)
  unfolding saying
  say_above kind m i = let a = (g.proper m i).sender in let b = le_clock q m i in let c = g.fit.few in omega arith

  sorted_put : (m : Message) → Proper st m → ((b : Message) → In b q → stamp b ≡ stamp m → ⊥) → Sorted st (put stamp m q)
  sorted_put m p d = record {
    fit = g.fit;
    rising = rising_put stamp m q g.rising d;
    proper = λ x i. ⊎_elim (λ e. subst (Proper st) (sym e) p) (g.proper x) (in_put stamp m x q i);
  }

  pub sorted_say : (kind : ℕ) → T (known kind) → Sorted st (say st kind q)
  unfolding say saying
  sorted_say kind k =
      sorted_put (saying st kind q) (record { sender = g.fit.mine; counter = omega arith; kind = k })
      (λ x i e. let h = say_above kind x i in omega arith)

  pub new_stamp : (m : Message) → New st q m → (b : Message) → In b q → stamp b ≡ stamp m → ⊥
  new_stamp m w b i e =
      let s = (g.proper b i).sender in
      let t = w.proper.sender in
      let f = g.fit.few in
      let c = le_last q b m.sender i (omega arith) in
      let a = w.above in
      omega arith

  pub sorted_new : (m : Message) → New st q m → Sorted st (put stamp m q)
  sorted_new m w = sorted_put m w.proper (new_stamp m w)

-- what is topped stays so in a longer queue
topped_put : (st : Start) (q : Queue) (a m : Message) → Topped st q m → Topped st (put stamp a q) m
topped_put st q a m t = (t.0, put_in stamp a t.0 q (inr t.1), t.2, t.3)

module _ (st : Start) (q : Queue) (g : Good st q) where
  pub good_say : (kind : ℕ) → T (known kind) → Good st (say st kind q)
  unfolding say saying
  good_say kind k = record {
    sorted = sorted_say st q g.sorted kind k;
    topped = λ m i c d.
        ⊎_elim
        (λ e. absurd (d (ap (λ (x : Message). x.sender) e)))
        (λ j. topped_put st q (saying st kind q) m (g.topped m j c d))
        (in_say st kind q m i);
  }

  pub good_accept : (m : Message) → New st q m → Good st (accept st q m)
  unfolding accept acks say saying
  good_accept m w =
      let p = put stamp m q in
      let a = saying st ack_kind p in
      let s = sorted_new st q g.sorted m w in
      cond_both (Good st) (acks (view st q) m) (say st ack_kind p) p
      (λ y. record {
        sorted = sorted_say st p s ack_kind tt;
        topped = λ x i c d.
            ⊎_elim
            (λ e. absurd (d (ap (λ (z : Message). z.sender) e)))
            (λ j. (a, put_in stamp a a p (inl refl), refl, say_above st p s ack_kind x j))
            (in_say st ack_kind p x i);
      })
      (λ n. record {
        sorted = s;
        topped = λ x i c d.
            ⊎_elim
            (λ e. absurd (T_not (counted m) n (subst (λ z. T (counted z)) e c)))
            (λ j. topped_put st q m x (g.topped x j c d))
            (in_put stamp m x q i);
      })
