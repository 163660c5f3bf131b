-- Of a list of messages: the number that the own take gets, and the kind of the last own message. Assumes nothing.
use mathlib.Core.Path.{◌≡◌, refl, ◌∙◌, subst}
use mathlib.Core.Logic.{◌⊎◌, inl, inr, ⊎_elim}
use mathlib.Core.Bool.{Bool, true, false, not, cond}
use mathlib.Core.List.{List, [], ◌∷◌, ◌++◌}
use Prim.Native.Nat.{ℕ, ◌+◌, ◌≤◌, ◌<◌}
use native.Mathlib.Omega.{arith}
use lib.Dec.{T, ltb, ltb→lt, T_not}
use lib.Ieee.Bits.{is_true, is_false}
use mir.Facts.{yes_and}
use Rattle.laws.specs.Below.{one?}
use Rattle.laws.specs.Lists.{In, keep, many, put}
use Rattle.laws.proofs.Tests.{test, cond_both, and_l, and_r}
use Rattle.laws.proofs.ListLaws.{many_cons}
use Rattle.frame.specs.declared.Message.{Message}
use Rattle.frame.specs.Message.{is_take, stamp, by, own_take}
use Rattle.post.specs.Settle.{own_number}
use Rattle.post.specs.Sound.{end_kind}

-- ---- the number of the own take

module _ (own : ℕ) where
  pub own_number_none : (n : ℕ) (ms : List Message) → ((m : Message) → In m ms → T (own_take own m) → ⊥) → own_number own n ms ≡ 0
  unfolding own_number
  own_number_none n [] h = refl
  own_number_none n (x ∷ ms) h =
      let later : (k : ℕ) → own_number own k ms ≡ 0 = λ k. own_number_none k ms (λ m i. h m (inr i)) in
      cond_both (λ r. r ≡ 0) (is_take x) _ _
      (λ t. cond_both (λ r. r ≡ 0) (by own x) _ _ (λ y. absurd (h x (inl refl) (yes_and (by own x) _ y t))) (λ y. later (n + 1)))
      (λ t. later n)

  pub own_number_some : (n : ℕ) (ms : List Message) (m : Message) → In m ms → T (own_take own m) → 1 ≤ own_number own n ms
  unfolding own_number
  own_number_some n [] m i o = absurd i
  own_number_some n (x ∷ ms) m i o =
      let here : m ≡ x → T (own_take own x) = λ e. subst (λ (z : Message). T (own_take own z)) e o in
      cond_both (λ r. 1 ≤ r) (is_take x) _ _
      (λ t. cond_both (λ r. 1 ≤ r) (by own x) _ _
      (λ y. omega arith)
      (λ y. own_number_some (n + 1) ms m (⊎_elim (λ e. absurd (T_not (by own x) y (and_l (by own x) _ (here e)))) (λ j. j) i) o))
      (λ t. own_number_some n ms m (⊎_elim (λ e. absurd (T_not (is_take x) t (and_r (by own x) _ (here e)))) (λ j. j) i) o)

  pub own_number_most : (n : ℕ) (ms : List Message) → own_number own n ms ≤ n + many is_take ms
  unfolding own_number keep
  own_number_most n [] = omega arith
  own_number_most n (x ∷ ms) =
      let a = own_number_most (n + 1) ms in
      let b = own_number_most n ms in
      go (is_take x) (by own x) (many_cons is_take x ms) a b
    where
      go : (s t : Bool) → many is_take (x ∷ ms) ≡ one? s + many is_take ms → own_number own (n + 1) ms ≤ n + 1 + many is_take ms → own_number own n ms ≤ n + many is_take ms
          → cond s (cond t (n + 1) (own_number own (n + 1) ms)) (own_number own n ms) ≤ n + many is_take (x ∷ ms)
      go true true c a b = omega arith
      go true false c a b = omega arith
      go false t c a b = omega arith

  -- ---- the kind of the last own message

  pub end_kind-append : (k : ℕ) (s t : List Message) → end_kind own k (s ++ t) ≡ end_kind own (end_kind own k s) t
  unfolding end_kind
  end_kind-append k [] t = refl
  end_kind-append k (x ∷ s) t = end_kind-append (cond (by own x) x.kind k) s t

  -- there is no own message, or it is the kind of one of them
  pub end_kind_which : (ms : List Message)
      → (((k : ℕ) → end_kind own k ms ≡ k) × ((m : Message) → In m ms → T (by own m) → ⊥))
      ⊎ ((m : Message) × In m ms × T (by own m) × ((k : ℕ) → end_kind own k ms ≡ m.kind))
  unfolding end_kind
  end_kind_which [] = inl (λ k. refl, λ m i. absurd i)
  end_kind_which (x ∷ ms) =
      ⊎_elim
      (λ h. test (by own x)
      (λ y. inr (x, inl refl, y, λ k. h.0 _ ∙ rw (is_true (by own x) y)))
      (λ n. inl (
        λ k. h.0 _ ∙ rw (is_false (by own x) n),
        λ m i o. ⊎_elim (λ e. T_not (by own x) n (subst (λ (z : Message). T (by own z)) e o)) (λ j. h.1 m j o) i,
      )))
      (λ h. inr (h.0, inr h.1, h.2, λ k. h.3 _))
      (end_kind_which ms)

  pub end_kind-put_other : (k : ℕ) (m : Message) (ms : List Message) → T (not (by own m)) → end_kind own k (put stamp m ms) ≡ end_kind own k ms
  unfolding end_kind put
  end_kind-put_other k m [] n = rw (is_false (by own m) n)
  end_kind-put_other k m (x ∷ ms) n =
      cond_both (λ l. end_kind own k l ≡ end_kind own k (x ∷ ms)) (ltb (stamp m) (stamp x)) (m ∷ x ∷ ms) (x ∷ put stamp m ms)
      (λ y. rw (is_false (by own m) n))
      (λ y. end_kind-put_other (cond (by own x) x.kind k) m ms n)

  -- an own message put above all others
  pub end_kind-put-last : (k : ℕ) (m : Message) (ms : List Message) → T (by own m) → ((b : Message) → In b ms → stamp b < stamp m) → end_kind own k (put stamp m ms) ≡ m.kind
  unfolding end_kind put
  end_kind-put-last k m [] o h = rw (is_true (by own m) o)
  end_kind-put-last k m (x ∷ ms) o h =
      cond_both (λ l. end_kind own k l ≡ m.kind) (ltb (stamp m) (stamp x)) (m ∷ x ∷ ms) (x ∷ put stamp m ms)
      (λ y. absurd (let a = ltb→lt (stamp m) (stamp x) y in let b = h x (inl refl) in omega arith))
      (λ y. end_kind-put-last (cond (by own x) x.kind k) m ms o (λ b i. h b (inr i)))
