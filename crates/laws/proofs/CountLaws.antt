-- How many pass a test: of joined lists, of the parts of a list, and with one more put in its place. Assumes nothing.
use mathlib.Core.Path.{◌≡◌, refl, sym, ap, ◌∙◌}
use mathlib.Core.Logic.{inl, inr}
use mathlib.Core.Bool.{Bool, true, false, ◌&&◌, ◌||◌}
use mathlib.Core.List.{List, [], ◌∷◌, ◌++◌}
use Prim.Native.Nat.{ℕ, suc, ◌+◌, ◌≤◌, ◌<◌}
use native.Mathlib.Omega.{arith}
use lib.Dec.{T, ltb, eqb, not_T}
use mir.Facts.{yes_and}
use lib.ListN.{length, length-append}
use Rattle.laws.specs.Below.{sum_to, one?}
use Rattle.laws.specs.Lists.{In, keep, many, all, put}
use Rattle.laws.proofs.Tests.{cond_both}
use Rattle.laws.proofs.BelowLaws.{sum_to_cong}
use Rattle.laws.proofs.ListLaws.{in_keep, keep_in, keep_yes, keep_append, keep_none, many_cons, parts}

module _ {A : Type 0} where
  pub keep_all : (f : A → Bool) (l : List A) → ((a : A) → In a l → T (f a)) → keep f l ≡ l
  unfolding keep
  keep_all f [] h = refl
  keep_all f (x ∷ xs) h = keep_yes f x xs (h x (inl refl)) ∙ ap (λ (t : List A). x ∷ t) (keep_all f xs (λ a m. h a (inr m)))

  pub many-append : (f : A → Bool) (s t : List A) → many f (s ++ t) ≡ many f s + many f t
  many-append f s t = ap length (keep_append f s t) ∙ length-append (keep f s) (keep f t)

  pub many_none : (f : A → Bool) (l : List A) → ((a : A) → In a l → T (f a) → ⊥) → many f l ≡ 0
  unfolding keep
  many_none f l h = ap length (keep_none f l (λ a m. not_T (f a) (h a m)))

  -- those that pass f, where each passes g or h
  pub many_split : (f g h : A → Bool) (l : List A) → ((a : A) → In a l → T (g a || h a)) → many f l ≤ many (λ a. f a && g a) l + many (λ a. f a && h a) l
  unfolding keep
  many_split f g h [] k = omega arith
  many_split f g h (x ∷ xs) k =
      let r = many_split f g h xs (λ a m. k a (inr m)) in
      let a = many_cons f x xs in
      let b = many_cons (λ y. f y && g y) x xs in
      let c = many_cons (λ y. f y && h y) x xs in
      let d = one (f x) (g x) (h x) (k x (inl refl)) in
      omega arith
    where
      one : (x y z : Bool) → T (y || z) → one? x ≤ one? (x && y) + one? (x && z)
      one true true z t = omega arith
      one true false true t = omega arith
      one true false false t = absurd t
      one false y z t = omega arith

  -- where none pass, no member does; where some do, here is one
  pub none_passes : (f : A → Bool) (l : List A) → many f l ≡ 0 → (a : A) → In a l → T (f a) → ⊥
  none_passes f l z a m t = go (keep f l) (in_keep f a l m t) z
    where
      go : (k : List A) → In a k → length k ≡ 0 → ⊥
      go [] i e = i
      go (x ∷ k) i e = omega arith

  pub some_passes : (f : A → Bool) (l : List A) → 1 ≤ many f l → (a : A) × In a l × T (f a)
  some_passes f l h = go (keep f l) (λ a m. keep_in f a l m) h
    where
      go : (k : List A) → ((a : A) → In a k → In a l × T (f a)) → 1 ≤ length k → (a : A) × In a l × T (f a)
      go [] g e = absurd (omega arith)
      go (x ∷ k) g e = (x, (g x (inl refl)).0, (g x (inl refl)).1)

  pub length_none : (l : List A) → ((a : A) → In a l → ⊥) → length l ≡ 0
  length_none [] h = refl
  length_none (x ∷ xs) h = absurd (h x (inl refl))

  pub at_all : (f : A → Bool) (l : List A) → ((a : A) → In a l → T (f a)) → T (all f l)
  unfolding all
  at_all f [] h = tt
  at_all f (x ∷ xs) h = yes_and (f x) (all f xs) (h x (inl refl)) (at_all f xs (λ a m. h a (inr m)))

  -- by a number below n, part by part
  pub length_parts : (who : A → ℕ) (n : ℕ) (l : List A) → ((a : A) → In a l → who a < n) → sum_to n (λ p. many (λ a. eqb (who a) p) l) ≡ length l
  length_parts who n l h =
      let every : (k : List A) → many (λ a. true) k ≡ length k = λ k. ap length (keep_all (λ a. true) k (λ a m. tt)) in
      sum_to_cong n _ _ (λ p i. sym (every (keep (λ a. eqb (who a) p) l))) ∙ parts who n (λ a. true) l h ∙ every l

  pub length-put : (key : A → ℕ) (a : A) (l : List A) → length (put key a l) ≡ suc (length l)
  unfolding put
  length-put key a [] = refl
  length-put key a (x ∷ xs) =
      cond_both (λ l. length l ≡ suc (suc (length xs))) (ltb (key a) (key x)) (a ∷ x ∷ xs) (x ∷ put key a xs) (λ y. refl) (λ n. ap suc (length-put key a xs))

  pub many-put : (f : A → Bool) (key : A → ℕ) (a : A) (l : List A) → many f (put key a l) ≡ one? (f a) + many f l
  unfolding put
  many-put f key a [] = many_cons f a []
  many-put f key a (x ∷ xs) =
      let r = many-put f key a xs in
      let d = many_cons f x xs in
      cond_both (λ l. many f l ≡ one? (f a) + many f (x ∷ xs)) (ltb (key a) (key x)) (a ∷ x ∷ xs) (x ∷ put key a xs)
      (λ y. many_cons f a (x ∷ xs))
      (λ n. let e = many_cons f x (put key a xs) in omega arith)
