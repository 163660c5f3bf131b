-- What a call settles: of what waited and what is new, that which is now heard; the rest waits. Assumes nothing.
use mathlib.Core.Path.{◌≡◌, refl, sym, ap, ◌∙◌, subst}
use mathlib.Core.Logic.{◌⊎◌, inl, inr, ⊎_elim}
use mathlib.Core.Bool.{Bool, not, cond}
use mathlib.Core.List.{List, ◌++◌}
use Prim.Native.Nat.{ℕ, ◌+◌}
use native.Mathlib.Omega.{arith}
use lib.Dec.{T, T_not}
use lib.ListN.{length}
use Rattle.laws.specs.Lists.{In, keep, many, Rising, put, upto}
use Rattle.laws.proofs.Tests.{cond_both}
use Rattle.laws.proofs.ListLaws.{in_right, in_append, in_keep, keep_in, keep_append}
use Rattle.laws.proofs.RisingLaws.{rising_seam, rising_keep, rising_same, in_put, put_in, rising_put}
use Rattle.laws.proofs.CountLaws.{many-append}
use Rattle.laws.proofs.Counting.{rising_right, upto-after}
use Rattle.frame.specs.declared.Message.{Message}
use Rattle.frame.specs.Message.{msg, ack_kind, is_take, counted, known, stamp}
use Rattle.calls.specs.declared.Start.{Start}
use Rattle.queue.specs.Queue.{Queue, heard, settled, waiting, takes, number}
use Rattle.calls.specs.View.{acks}
use Rattle.queue.specs.Calls.{view, saying, say, accept}
use Rattle.queue.proofs.Good.{Sorted, New, in_say, say_above, new_stamp}
use Rattle.queue.proofs.Heard.{settled_in, in_settled, settled_rising, takes_rising}
use Rattle.queue.proofs.Grow.{Later, heard_grows, settled_grows, later_say, later_accept}
use Rattle.queue.proofs.Waiting.{waiting_in, in_waiting, waiting_rising, settled-or_waits, not_both}

-- v is what waited with what is new: all takes and returns of a later queue that were not settled
pub record Between (st : Start) (q q' : Queue) (v : List Message) : Type 0 where
  pub later : Later st q q'
  pub rising : Rising stamp v
  pub only : (m : Message) → In m v → In m q' × T (counted m) × (In m (settled st q) → ⊥)
  pub whole : (m : Message) → In m q' → T (counted m) → In m (settled st q) ⊎ In m v

module _ (st : Start) (q q' : Queue) (v : List Message) (b : Between st q q' v) where
  pub waits_on : waiting st q' ≡ keep (λ m. not (heard st q' m)) v
  waits_on =
      let f : Message → Bool = λ m. not (heard st q' m) in
      rising_same stamp (waiting st q') (keep f v) (waiting_rising st q' b.later.after) (rising_keep stamp f v b.rising)
      (λ m i.
      let x = waiting_in st q' m i in
      ⊎_elim
      (λ j. absurd (T_not (heard st q' m) x.2 (heard_grows st q q' b.later m (settled_in st q m j).2)))
      (λ j. in_keep f m v j x.2)
      (b.whole m x.0 x.1))
      (λ m i. let x = keep_in f m v i in let y = b.only m x.0 in in_waiting st q' m y.0 y.1 x.1)

  pub settles : settled st q' ≡ settled st q ++ keep (heard st q') v
  settles =
      let a = settled_grows st q q' b.later in
      let up : Rising stamp (settled st q ++ a.0) = subst (Rising stamp) (sym a.1) (settled_rising st q' b.later.after) in
      let e : a.0 ≡ keep (heard st q') v =
      rising_same stamp a.0 (keep (heard st q') v) (rising_right stamp (settled st q) a.0 up) (rising_keep stamp (heard st q') v b.rising)
      (λ m i.
      let x = settled_in st q' m (subst (In m) a.1 (in_right m (settled st q) a.0 i)) in
      ⊎_elim
      (λ j. absurd (let z = rising_seam stamp (settled st q) a.0 up m m j i in omega arith))
      (λ j. in_keep (heard st q') m v j x.2)
      (b.whole m x.0 x.1))
      (λ m i.
      let x = keep_in (heard st q') m v i in
      let y = b.only m x.0 in
      ⊎_elim
      (λ j. absurd (y.2 j))
      (λ j. j)
      (in_append m (settled st q) a.0 (subst (In m) (sym a.1) (in_settled st q' m y.0 y.1 x.1))))
      in
      sym a.1 ∙ ap (λ (t : List Message). settled st q ++ t) e

  -- the counts go on by what is newly settled
  pub count_after : (f : Message → Bool) → many f (settled st q') ≡ many f (settled st q) + many f (keep (heard st q') v)
  count_after f = ap (many f) settles ∙ many-append f (settled st q) (keep (heard st q') v)

  -- and so does the number of a take that is newly settled
  pub number-after : (m : Message) → In m (keep is_take (keep (heard st q') v))
      → number st q' m ≡ length (takes st q) + upto stamp (keep is_take (keep (heard st q') v)) m
  number-after m i =
      let new = keep is_take (keep (heard st q') v) in
      let e : takes st q' ≡ takes st q ++ new = ap (keep is_take) settles ∙ keep_append is_take (settled st q) (keep (heard st q') v) in
      let up : Rising stamp (takes st q ++ new) = subst (Rising stamp) e (takes_rising st q' b.later.after) in
      ap (λ (l : List Message). upto stamp l m) e
      ∙ upto-after stamp (takes st q) new m (λ x j. let h = rising_seam stamp (takes st q) new up x m j i in omega arith)

-- ---- the calls

-- what is new: a take or return m, or nothing of the kind
module _ (st : Start) (q q' : Queue) (l : Later st q q') where
  old : (m : Message) → In m (waiting st q) → In m q' × T (counted m) × (In m (settled st q) → ⊥)
  old m i = let x = waiting_in st q m i in (l.keeps m x.0, x.1, not_both st q m i)

  between_same : ((x : Message) → In x q' → T (counted x) → In x q) → Between st q q' (waiting st q)
  between_same h = record {
    later = l;
    rising = waiting_rising st q l.before;
    only = old;
    whole = λ m i c. settled-or_waits st q m (h m i c) c;
  }

  between_put : (m : Message) → In m q' → T (counted m) → ((b : Message) → In b q → stamp b ≡ stamp m → ⊥)
      → ((x : Message) → In x q' → T (counted x) → (x ≡ m) ⊎ In x q) → Between st q q' (put stamp m (waiting st q))
  between_put m here c d h = record {
    later = l;
    rising = rising_put stamp m (waiting st q) (waiting_rising st q l.before) (λ b i. d b (waiting_in st q b i).0);
    only = λ x i.
        ⊎_elim
        (λ e. subst (λ (y : Message). In y q' × T (counted y) × (In y (settled st q) → ⊥)) (sym e)
        (here, c, λ j. d m (settled_in st q m j).0 refl))
        (old x)
        (in_put stamp m x (waiting st q) i);
    whole = λ x i k.
        ⊎_elim
        (λ e. inr (put_in stamp m x (waiting st q) (inl e)))
        (λ j. ⊎_elim inl (λ y. inr (put_in stamp m x (waiting st q) (inr y))) (settled-or_waits st q x j k))
        (h x i k);
  }

-- an own take or return goes among what waits
pub between_say : (st : Start) (q : Queue) → Sorted st q → (kind : ℕ) → T (known kind) → T (counted (msg kind 0 0))
    → Between st q (say st kind q) (put stamp (saying st kind q) (waiting st q))
unfolding say saying
between_say st q g kind k c =
    let t = saying st kind q in
    between_put st q (say st kind q) (later_say st q g kind k) t (put_in stamp t t q (inl refl)) c
    (λ b i e. let h = say_above st q g kind b i in omega arith)
    (λ x i y. in_say st kind q x i)

-- and so does one of another post; an acknowledgment adds nothing
abbrev pub arrived : Start → Queue → Message → List Message
arrived st q m = cond (counted m) (put stamp m (waiting st q)) (waiting st q)

module _ (st : Start) (q : Queue) (g : Sorted st q) (m : Message) (w : New st q m) where
  counted_in : (x : Message) → In x (accept st q m) → T (counted x) → (x ≡ m) ⊎ In x q
  unfolding accept saying
  counted_in x i k =
      let p = put stamp m q in
      cond_both (λ (l : Queue). In x l → (x ≡ m) ⊎ In x q) (acks (view st q) m) (say st ack_kind p) p
      (λ y j. ⊎_elim (λ e. absurd (subst (λ (z : Message). T (counted z)) e k)) (in_put stamp m x q) (in_say st ack_kind p x j))
      (λ n. in_put stamp m x q)
      i

  here : In m (accept st q m)
  unfolding accept say
  here =
      let p = put stamp m q in
      let i = put_in stamp m m q (inl refl) in
      cond_both (In m) (acks (view st q) m) (say st ack_kind p) p (λ y. put_in stamp (saying st ack_kind p) m p (inr i)) (λ n. i)

  pub between_accept : Between st q (accept st q m) (arrived st q m)
  between_accept =
      let l = later_accept st q g m w in
      cond_both (Between st q (accept st q m)) (counted m) (put stamp m (waiting st q)) (waiting st q)
      (λ c. between_put st q (accept st q m) l m here c (new_stamp st q g m w) counted_in)
      (λ n.
      between_same st q (accept st q m) l (λ x i k.
      ⊎_elim (λ e. absurd (T_not (counted m) n (subst (λ (z : Message). T (counted z)) e k))) (λ j. j) (counted_in x i k)))
