-- Lists that rise above a number, and what of a list comes before the first key above a number. Assumes nothing.
use mathlib.Core.Path.{◌≡◌, refl, sym, ap, ◌∙◌, subst}
use mathlib.Core.Logic.{inl, inr, ⊎_elim}
use mathlib.Core.Bool.{Bool, not}
use mathlib.Core.List.{List, [], ◌∷◌, ◌++◌}
use Prim.Native.Nat.{ℕ, suc, ◌+◌, ◌≤◌, ◌<◌}
use native.Mathlib.Omega.{arith}
use lib.Dec.{T, leb, ltb, leb→le, le→leb, nleb→lt, ltb→lt, lt→ltb, nltb→le, T_not, not_T}
use lib.ListN.{length, drop}
use mir.Facts.{yes_and}
use Rattle.laws.specs.Lists.{In, keep, many, Rising, rises, leading}
use Rattle.laws.proofs.Tests.{cond_both, and_l, and_r}
use Rattle.laws.proofs.ListLaws.{keep_yes, keep_no, keep_none, keep_in}
use Rattle.laws.proofs.RisingLaws.{rising_keep}
use Rattle.laws.proofs.CountLaws.{keep_all, many-append}

module _ {A : Type 0} (key : A → ℕ) where
  -- ---- the test of rising

  pub rises_above : (t : ℕ) (l : List A) → T (rises key t l) → (a : A) → In a l → t < key a
  unfolding rises
  rises_above t (x ∷ xs) r a (inl e) = let h = ltb→lt t (key x) (and_l (ltb t (key x)) _ r) in let k = ap key e in omega arith
  rises_above t (x ∷ xs) r a (inr i) =
      let h = ltb→lt t (key x) (and_l (ltb t (key x)) _ r) in
      let k = rises_above (key x) xs (and_r (ltb t (key x)) _ r) a i in
      omega arith
  rises_above t [] r a i = absurd i

  pub rises_rising : (t : ℕ) (l : List A) → T (rises key t l) → Rising key l
  unfolding rises
  rises_rising t [] r = tt
  rises_rising t (x ∷ xs) r =
      let s = and_r (ltb t (key x)) _ r in
      (λ a i. rises_above (key x) xs s a i, rises_rising (key x) xs s)

  pub rises_passes : (t : ℕ) (l : List A) → Rising key l → ((a : A) → In a l → t < key a) → T (rises key t l)
  unfolding rises
  rises_passes t [] r h = tt
  rises_passes t (x ∷ xs) r h = yes_and (ltb t (key x)) _ (lt→ltb t (key x) (h x (inl refl))) (rises_passes (key x) xs r.1 r.0)

  module _ (t : ℕ) where
    -- ---- up to t, and the rest

    abbrev pub under : A → Bool
    under a = leb (key a) t

    abbrev pub left_of : List A → List A
    left_of l = drop (length (leading key t l)) l

    pub leading_join : (l : List A) → leading key t l ++ left_of l ≡ l
    unfolding leading
    leading_join [] = refl
    leading_join (x ∷ xs) =
        cond_both (λ g. g ++ drop (length g) (x ∷ xs) ≡ x ∷ xs) (ltb t (key x)) [] (x ∷ leading key t xs) (λ y. refl) (λ n. ap (λ (l : List A). x ∷ l) (leading_join xs))

    pub leading_length : (l : List A) → length (leading key t l) ≤ length l
    unfolding leading
    leading_length [] = omega arith
    leading_length (x ∷ xs) =
        let r = leading_length xs in
        cond_both (λ (g : List A). length g ≤ suc (length xs)) (ltb t (key x)) [] (x ∷ leading key t xs) (λ y. omega arith) (λ n. omega arith)

    first_above : (x : A) (xs : List A) → Rising key (x ∷ xs) → T (ltb t (key x)) → (a : A) → In a (x ∷ xs) → T (not (under a))
    first_above x xs r y a i =
        not_T (under a) (λ z.
        let h = ltb→lt t (key x) y in
        let b = leb→le (key a) t z in
        ⊎_elim (λ e. let c = ap key e in omega arith) (λ j. let c = r.0 a j in omega arith) i)

    -- of a list that rises they are those at or below t, and the others
    pub leading-keep : (l : List A) → Rising key l → leading key t l ≡ keep under l
    unfolding leading keep
    leading-keep [] r = refl
    leading-keep (x ∷ xs) r =
        cond_both (λ g. g ≡ keep under (x ∷ xs)) (ltb t (key x)) [] (x ∷ leading key t xs)
        (λ y. sym (keep_none under (x ∷ xs) (first_above x xs r y)))
        (λ n. ap (λ (l : List A). x ∷ l) (leading-keep xs r.1) ∙ sym (keep_yes under x xs (le→leb (key x) t (nltb→le t (key x) n))))

    pub left-keep : (l : List A) → Rising key l → left_of l ≡ keep (λ a. not (under a)) l
    unfolding leading keep
    left-keep [] r = refl
    left-keep (x ∷ xs) r =
        cond_both (λ g. drop (length g) (x ∷ xs) ≡ keep (λ a. not (under a)) (x ∷ xs)) (ltb t (key x)) [] (x ∷ leading key t xs)
        (λ y. sym (keep_all (λ a. not (under a)) (x ∷ xs) (first_above x xs r y)))
        (λ n. left-keep xs r.1
        ∙ sym (keep_no (λ a. not (under a)) x xs (not_T (not (under x)) (λ z. T_not (under x) z (le→leb (key x) t (nltb→le t (key x) n))))))

    module _ (l : List A) where
      pub many-leading : (f : A → Bool) → many f l ≡ many f (leading key t l) + many f (left_of l)
      many-leading f = ap (many f) (sym (leading_join l)) ∙ many-append f (leading key t l) (left_of l)

      module _ (r : Rising key l) where
        pub left_in : (a : A) → In a (left_of l) → In a l × (t < key a)
        left_in a i =
            let k = keep_in (λ x. not (under x)) a l (subst (In a) (left-keep l r) i) in
            (k.0, nleb→lt (key a) t k.1)

        pub left-rises : Rising key (left_of l)
        left-rises = subst (Rising key) (sym (left-keep l r)) (rising_keep key (λ x. not (under x)) l r)
