-- What a call does to what a test keeps of a queue. Assumes nothing.
use mathlib.Core.Path.{◌≡◌, sym, ◌∙◌}
use mathlib.Core.Bool.{Bool, not}
use mathlib.Core.List.{[], ◌∷◌, ◌++◌}
use Prim.Native.Nat.{ℕ, ◌<◌}
use native.Mathlib.Omega.{arith}
use lib.Dec.{T, not_T, eqb→eq, eqb_refl}
use Rattle.laws.specs.Lists.{In, keep, Begins, put}
use Rattle.laws.proofs.Tests.{cond_both}
use Rattle.laws.proofs.ListLaws.{begins_refl}
use Rattle.laws.proofs.RisingLaws.{keep-put_no, keep-put-last}
use Rattle.frame.specs.declared.Message.{Message}
use Rattle.frame.specs.Message.{ack_kind, stamp, by}
use Rattle.calls.specs.declared.Start.{Start}
use Rattle.queue.specs.Queue.{Queue}
use Rattle.calls.specs.View.{acks}
use Rattle.queue.specs.Calls.{view, saying, say, accept}
use Rattle.queue.proofs.Good.{le_last, Sorted, say_above, New, new_stamp, sorted_new}

module _ (st : Start) (q : Queue) (f : Message → Bool) where
  pub keep-say_no : (kind : ℕ) → T (not (f (saying st kind q))) → keep f (say st kind q) ≡ keep f q
  unfolding say
  keep-say_no kind n = keep-put_no stamp f (saying st kind q) q n

  pub keep-say-last : Sorted st q → (kind : ℕ) → T (f (saying st kind q)) → keep f (say st kind q) ≡ keep f q ++ (saying st kind q ∷ [])
  unfolding say
  keep-say-last g kind t =
      keep-put-last stamp f (saying st kind q) q g.rising t
      (λ b i y. say_above st q g kind b i)
      (λ b i e. let h = say_above st q g kind b i in omega arith)

-- of the parts by sender
not-by : (r : ℕ) (m : Message) → (r ≡ m.sender → ⊥) → T (not (by r m))
not-by r m d = not_T (by r m) (λ y. d (sym (eqb→eq m.sender r y)))

module _ (st : Start) (q : Queue) where
  pub keep-accept_no : (f : Message → Bool) (m : Message) → T (not (f m)) → T (not (f (saying st ack_kind (put stamp m q))))
      → keep f (accept st q m) ≡ keep f q
  unfolding accept
  keep-accept_no f m n k =
      let p = put stamp m q in
      let e = keep-put_no stamp f m q n in
      cond_both (λ x. keep f x ≡ keep f q) (acks (view st q) m) (say st ack_kind p) p (λ y. keep-say_no st p f ack_kind k ∙ e) (λ z. e)

  pub others_said : (kind r : ℕ) → (r ≡ st.own → ⊥) → keep (by r) (say st kind q) ≡ keep (by r) q
  unfolding saying
  others_said kind r d = keep-say_no st q (by r) kind (not-by r (saying st kind q) d)

  pub others_accepted : (r : ℕ) (m : Message) → (r ≡ st.own → ⊥) → (r ≡ m.sender → ⊥) → keep (by r) (accept st q m) ≡ keep (by r) q
  unfolding saying
  others_accepted r m d f = keep-accept_no (by r) m (not-by r m f) (not-by r (saying st ack_kind (put stamp m q)) d)

  pub own_said : Sorted st q → (kind : ℕ) → Begins (keep (by st.own) q) (keep (by st.own) (say st kind q))
  unfolding saying
  own_said g kind = (saying st kind q ∷ [], sym (keep-say-last st q (by st.own) g kind (eqb_refl st.own)))

-- of a new message: the own messages grow at the end, the sender's by the message
module _ (st : Start) (q : Queue) (g : Sorted st q) (m : Message) (w : New st q m) where
  pub own_accepted : Begins (keep (by st.own) q) (keep (by st.own) (accept st q m))
  unfolding accept
  own_accepted =
      let p = put stamp m q in
      let e = keep-put_no stamp (by st.own) m q (not-by st.own m (λ x. w.other (sym x))) in
      cond_both (λ x. Begins (keep (by st.own) q) (keep (by st.own) x)) (acks (view st q) m) (say st ack_kind p) p
      (λ y. rw e at (own_said st p (sorted_new st q g m w) ack_kind))
      (λ n. rw e (begins_refl (keep (by st.own) q)))

  sender_above : (b : Message) → In b q → T (by m.sender b) → stamp b < stamp m
  sender_above b i t =
      let d = eqb→eq b.sender m.sender t in
      let c = le_last q b m.sender i d in
      let a = w.above in
      omega arith

  pub sender_accepted : keep (by m.sender) (accept st q m) ≡ keep (by m.sender) q ++ (m ∷ [])
  unfolding accept
  sender_accepted =
      let p = put stamp m q in
      let e = keep-put-last stamp (by m.sender) m q g.rising (eqb_refl m.sender) sender_above (new_stamp st q g m w) in
      cond_both (λ x. keep (by m.sender) x ≡ keep (by m.sender) q ++ (m ∷ [])) (acks (view st q) m) (say st ack_kind p) p
      (λ y. others_said st p ack_kind m.sender w.other ∙ e)
      (λ n. e)
