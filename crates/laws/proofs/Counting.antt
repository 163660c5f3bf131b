-- How many of a list pass a test, and how many are up to a member; and the greatest number with one put in. Assumes nothing.
use mathlib.Core.Path.{◌≡◌, refl, sym, ap, ◌∙◌}
use mathlib.Core.Logic.{inl, inr, ⊎_elim}
use mathlib.Core.Bool.{Bool, true, not, ◌&&◌}
use mathlib.Core.List.{List, [], ◌∷◌, ◌++◌}
use Prim.Native.Nat.{ℕ, ◌+◌, ◌≤◌, ◌<◌, max}
use native.Mathlib.Omega.{arith}
use lib.Dec.{T, leb, ltb, leb→le, le→leb}
use lib.ListN.{length}
use lib.Ieee.Bits.{is_true, is_false}
use Rattle.laws.specs.Below.{one?}
use Rattle.laws.specs.Lists.{In, keep, many, Rising, put, upto, top}
use Rattle.laws.proofs.Tests.{test, cond_both, and_r}
use Rattle.laws.proofs.BelowLaws.{one_yes, one_le}
use Rattle.laws.proofs.ListLaws.{in_cast, in_keep, keep_in, keep_yes, keep-keep, many_cons, many_le}
use Rattle.laws.proofs.CountLaws.{keep_all, many_none, many-append}
use Rattle.laws.proofs.RisingLaws.{rising_keep, rising_same}

pub one_most : (b : Bool) → one? b ≤ 1
one_most b = one_le b true (λ t. tt)

pub one_no : (b : Bool) → T (not b) → one? b ≡ 0
one_no b n = rw (is_false b n)

module _ {A : Type 0} where
  pub many-all : (f : A → Bool) (l : List A) → ((a : A) → In a l → T (f a)) → many f l ≡ length l
  many-all f l h = ap length (keep_all f l h)

  -- a test sees no more in what another keeps
  pub many-keep : (f g : A → Bool) (l : List A) → many f (keep g l) ≤ many f l
  many-keep f g l =
      let e = ap length (keep-keep f g l) in
      let h = many_le (λ a. g a && f a) f l (λ a i. and_r (g a) (f a)) in
      omega arith

module _ {A : Type 0} (key : A → ℕ) where
  -- the only one that passes
  pub many_one : (f : A → Bool) (l : List A) (t : A) → Rising key l → In t l → T (f t) → ((a : A) → In a l → T (f a) → a ≡ t) → many f l ≡ 1
  many_one f l t r i y h =
      ap length (rising_same key (keep f l) (t ∷ []) (rising_keep key f l r) (λ b j. absurd j, tt)
      (λ a j. let k = keep_in f a l j in inl (h a k.0 k.1))
      (λ a j. ⊎_elim (λ e. in_cast (keep f l) (sym e) (in_keep f t l i y)) absurd j))

  pub rising_right : (s t : List A) → Rising key (s ++ t) → Rising key t
  rising_right [] t r = r
  rising_right (x ∷ s) t r = rising_right s t r.1

  -- ---- how many are at or below one

  pub upto_cons : (x : A) (xs : List A) (a : A) → upto key (x ∷ xs) a ≡ one? (leb (key x) (key a)) + upto key xs a
  unfolding upto
  upto_cons x xs a = many_cons (λ y. leb (key y) (key a)) x xs

  pub upto_none : (l : List A) (a : A) → ((b : A) → In b l → key a < key b) → upto key l a ≡ 0
  unfolding upto
  upto_none l a h = many_none (λ y. leb (key y) (key a)) l (λ b i y. let p = leb→le (key b) (key a) y in let q = h b i in omega arith)

  pub upto-after : (s t : List A) (a : A) → ((b : A) → In b s → key b ≤ key a) → upto key (s ++ t) a ≡ length s + upto key t a
  unfolding upto
  upto-after s t a h =
      let f : A → Bool = λ x. leb (key x) (key a) in
      many-append f s t ∙ ap (λ (n : ℕ). n + many f t) (many-all f s (λ b i. le→leb (key b) (key a) (h b i)))

  pub upto_some : (l : List A) (a : A) → In a l → 0 < upto key l a
  upto_some (x ∷ xs) a (inl e) =
      let b = upto_cons x xs a in
      let c = one_yes (leb (key x) (key a)) (le→leb (key x) (key a) (let k = ap key e in omega arith)) in
      omega arith
  upto_some (x ∷ xs) a (inr i) = let b = upto_cons x xs a in let h = upto_some xs a i in omega arith
  upto_some [] a i = absurd i

  -- ---- the greatest

  pub top-put : (by : A → ℕ) (a : A) (l : List A) → top key (put by a l) ≡ max (key a) (top key l)
  unfolding top put
  top-put by a [] = refl
  top-put by a (x ∷ xs) =
      let h = top-put by a xs in
      cond_both (λ l. top key l ≡ max (key a) (max (key x) (top key xs))) (ltb (by a) (by x)) (a ∷ x ∷ xs) (x ∷ put by a xs)
      (λ y. refl)
      (λ n. omega arith)

  pub top-keep-put : (by : A → ℕ) (f : A → Bool) (a : A) (l : List A) → T (f a) → top key (keep f (put by a l)) ≡ max (key a) (top key (keep f l))
  unfolding top put keep
  top-keep-put by f a [] t = ap (top key) (keep_yes f a [] t)
  top-keep-put by f a (x ∷ xs) t =
      cond_both (λ l. top key (keep f l) ≡ max (key a) (top key (keep f (x ∷ xs)))) (ltb (by a) (by x)) (a ∷ x ∷ xs) (x ∷ put by a xs)
      (λ y. ap (top key) (keep_yes f a (x ∷ xs) t))
      (λ n.
      let h = top-keep-put by f a xs t in
      test (f x)
      (λ y. rw (is_true (f x) y) (omega arith))
      (λ y. rw (is_false (f x) y) h))
