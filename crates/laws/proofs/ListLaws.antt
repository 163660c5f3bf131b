-- Lists: what stands in a joined list, what a test keeps, where one list begins another, the last. Assumes nothing.
use mathlib.Core.Path.{◌≡◌, refl, sym, ap, ◌∙◌, subst}
use mathlib.Core.Logic.{◌⊎◌, inl, inr, ⊎_elim}
use mathlib.Core.Bool.{Bool, true, false, not, cond, ◌&&◌, and-true, and-false}
use mathlib.Core.List.{List, [], ◌∷◌, ◌++◌, map, append_assoc, append-nil, map-append}
use Prim.Native.Nat.{ℕ, ◌+◌, ◌≤◌, ◌<◌}
use native.Mathlib.Omega.{arith}
use lib.Dec.{T, T_not, eqb}
use lib.ListN.{length, drop, length-append, length-map}
use lib.Seq.{drop-append_seam}
use lib.Ieee.Bits.{is_true, is_false}
use Rattle.std.specs.List.{list_all}
use Rattle.laws.specs.Below.{sum_to, one?}
use Rattle.laws.specs.Lists.{In, keep, many, all, final, Begins}
use Rattle.laws.proofs.Tests.{test, cond_both}
use Rattle.laws.proofs.BelowLaws.{sum_to_cong, sum_to-add, sum_to_zero, one_le, one_below}

module _ {A : Type 0} where
  pub in_cast : {a b : A} (l : List A) → a ≡ b → In a l → In b l
  in_cast l e i = subst (λ (x : A). In x l) e i

  pub in_left : (a : A) (s t : List A) → In a s → In a (s ++ t)
  in_left a [] t m = absurd m
  in_left a (x ∷ s) t (inl e) = inl e
  in_left a (x ∷ s) t (inr m) = inr (in_left a s t m)

  pub in_right : (a : A) (s t : List A) → In a t → In a (s ++ t)
  in_right a [] t m = m
  in_right a (x ∷ s) t m = inr (in_right a s t m)

  pub in_append : (a : A) (s t : List A) → In a (s ++ t) → In a s ⊎ In a t
  in_append a [] t m = inr m
  in_append a (x ∷ s) t (inl e) = inl (inl e)
  in_append a (x ∷ s) t (inr m) = ⊎_elim (λ k. inl (inr k)) inr (in_append a s t m)

  -- ---- what a test keeps

  pub keep_yes : (f : A → Bool) (x : A) (xs : List A) → T (f x) → keep f (x ∷ xs) ≡ x ∷ keep f xs
  unfolding keep
  keep_yes f x xs t = rw (is_true (f x) t)

  pub keep_no : (f : A → Bool) (x : A) (xs : List A) → T (not (f x)) → keep f (x ∷ xs) ≡ keep f xs
  unfolding keep
  keep_no f x xs t = rw (is_false (f x) t)

  pub in_keep : (f : A → Bool) (a : A) (l : List A) → In a l → T (f a) → In a (keep f l)
  unfolding keep
  in_keep f a [] m t = absurd m
  in_keep f a (x ∷ xs) (inl e) t = cond_both (In a) (f x) (x ∷ keep f xs) (keep f xs) (λ y. inl e) (λ n. absurd (T_not (f x) n (rw e at t)))
  in_keep f a (x ∷ xs) (inr m) t =
      let r = in_keep f a xs m t in
      cond_both (In a) (f x) (x ∷ keep f xs) (keep f xs) (λ y. inr r) (λ n. r)

  pub keep_in : (f : A → Bool) (a : A) (l : List A) → In a (keep f l) → In a l × T (f a)
  unfolding keep
  keep_in f a [] m = absurd m
  keep_in f a (x ∷ xs) m =
      let later : In a (keep f xs) → In a (x ∷ xs) × T (f a) = λ k. (inr (keep_in f a xs k).0, (keep_in f a xs k).1) in
      cond_both (λ l. In a l → In a (x ∷ xs) × T (f a)) (f x) (x ∷ keep f xs) (keep f xs) (λ y. ⊎_elim (λ e. (inl e, rw e y)) later) (λ n. later) m

  pub keep_append : (f : A → Bool) (s t : List A) → keep f (s ++ t) ≡ keep f s ++ keep f t
  unfolding keep
  keep_append f [] t = refl
  keep_append f (x ∷ s) t =
      let r = keep_append f s t in
      test (f x) (λ y. rw (is_true (f x) y, r)) (λ n. rw (is_false (f x) n, r))

  pub keep_cong : (f g : A → Bool) (l : List A) → ((a : A) → In a l → f a ≡ g a) → keep f l ≡ keep g l
  unfolding keep
  keep_cong f g [] h = refl
  keep_cong f g (x ∷ xs) h = rw (h x (inl refl), keep_cong f g xs (λ a m. h a (inr m)))

  pub keep-keep : (f g : A → Bool) (l : List A) → keep f (keep g l) ≡ keep (λ a. g a && f a) l
  unfolding keep
  keep-keep f g [] = refl
  keep-keep f g (x ∷ xs) =
      let r = keep-keep f g xs in
      test (g x) (λ y. rw (is_true (g x) y, r)) (λ n. rw (is_false (g x) n, r))

  pub keep_none : (f : A → Bool) (l : List A) → ((a : A) → In a l → T (not (f a))) → keep f l ≡ []
  unfolding keep
  keep_none f [] h = refl
  keep_none f (x ∷ xs) h = keep_no f x xs (h x (inl refl)) ∙ keep_none f xs (λ a m. h a (inr m))

  pub many_cons : (f : A → Bool) (x : A) (xs : List A) → many f (x ∷ xs) ≡ one? (f x) + many f xs
  unfolding keep
  many_cons f x xs = go (f x)
    where
      go : (b : Bool) → length (cond b (x ∷ keep f xs) (keep f xs)) ≡ one? b + many f xs
      go true = omega arith
      go false = omega arith

  pub many_le : (f g : A → Bool) (l : List A) → ((a : A) → In a l → T (f a) → T (g a)) → many f l ≤ many g l
  unfolding keep
  many_le f g [] h = omega arith
  many_le f g (x ∷ xs) h =
      let r = many_le f g xs (λ a m. h a (inr m)) in
      let a = many_cons f x xs in
      let b = many_cons g x xs in
      let c = one_le (f x) (g x) (h x (inl refl)) in
      omega arith

  -- ---- one list begins another

  pub begins_refl : (s : List A) → Begins s s
  begins_refl s = ([], append-nil s)

  pub begins_trans : (s t u : List A) → Begins s t → Begins t u → Begins s u
  begins_trans s t u a b = (a.0 ++ b.0, sym (append_assoc s a.0 b.0) ∙ ap (λ (r : List A). r ++ b.0) a.1 ∙ b.1)

  pub begins_keep : (f : A → Bool) (s t : List A) → Begins s t → Begins (keep f s) (keep f t)
  begins_keep f s t a = (keep f a.0, sym (keep_append f s a.0) ∙ ap (keep f) a.1)

  pub begins_length : (s t : List A) → Begins s t → length s ≤ length t
  begins_length s t a = let e = ap length a.1 in let l = length-append s a.0 in omega arith

  pub begins_in : (a : A) (s t : List A) → Begins s t → In a s → In a t
  begins_in a s t b m = subst (In a) b.1 (in_left a s b.0 m)

  pub begins_drop : (s t : List A) → Begins s t → s ++ drop (length s) t ≡ t
  begins_drop s t b = subst (λ (u : List A). s ++ drop (length s) u ≡ u) b.1 (ap (λ (r : List A). s ++ r) (drop-append_seam s b.0))

  -- ---- the last

  pub final-append : (s t : List A) (d : A) → final (s ++ t) d ≡ final t (final s d)
  unfolding final
  final-append [] t d = refl
  final-append (x ∷ s) t d = final-append s t x

  pub final_snoc : (l : List A) (x d : A) → final (l ++ (x ∷ [])) d ≡ x
  unfolding final
  final_snoc l x d = final-append l (x ∷ []) d

  pub final_in : (l : List A) (d : A) → (final l d ≡ d) ⊎ In (final l d) l
  unfolding final
  final_in [] d = inl refl
  final_in (x ∷ l) d = inr (final_in l x)

-- ---- each mapped

module _ {A B : Type 0} (g : A → B) where
  pub map-keep : (f : B → Bool) (l : List A) → map g (keep (λ a. f (g a)) l) ≡ keep f (map g l)
  unfolding keep
  map-keep f [] = refl
  map-keep f (x ∷ l) =
      let r = map-keep f l in
      test (f (g x)) (λ y. rw (is_true (f (g x)) y, r)) (λ n. rw (is_false (f (g x)) n, r))

  pub begins_map : (s t : List A) → Begins s t → Begins (map g s) (map g t)
  begins_map s t b = (map g b.0, sym (map-append g s b.0) ∙ ap (map g) b.1)

-- a list's parts by a number below n, counted, are together the list's count
module _ {A : Type 0} (who : A → ℕ) (n : ℕ) (g : A → Bool) where
  abbrev part : ℕ → A → Bool
  part p a = eqb (who a) p

  first : (x : A) → who x < n → sum_to n (λ p. one? (part p x && g x)) ≡ one? (g x)
  first x h = go (g x)
    where
      go : (b : Bool) → sum_to n (λ p. one? (part p x && b)) ≡ one? b
      go true = sum_to_cong n _ _ (λ p l. ap one? (and-true (part p x))) ∙ one_below n (who x) h
      go false = sum_to_cong n _ _ (λ p l. ap one? (and-false (part p x))) ∙ sum_to_zero n

  split : (p : ℕ) (x : A) (xs : List A) → many g (keep (part p) (x ∷ xs)) ≡ one? (part p x && g x) + many g (keep (part p) xs)
  split p x xs = rw (keep-keep g (part p) (x ∷ xs), keep-keep g (part p) xs) (many_cons (λ a. part p a && g a) x xs)

  pub parts : (l : List A) → ((a : A) → In a l → who a < n) → sum_to n (λ p. many g (keep (part p) l)) ≡ many g l
  unfolding keep
  parts [] h = sum_to_zero n
  parts (x ∷ xs) h =
      let a = sum_to_cong n _ (λ p. one? (part p x && g x) + many g (keep (part p) xs)) (λ p l. split p x xs) in
      let b = sum_to-add n (λ p. one? (part p x && g x)) (λ p. many g (keep (part p) xs)) in
      let c = parts xs (λ a m. h a (inr m)) in
      let d = first x (h x (inl refl)) in
      let e = many_cons g x xs in
      omega arith

-- the length of an array of structs, from the list of what it denotes
pub length_mapped : (X Y : Type 0) (f : X → Y) (l : List X) (n : ℕ) → length (map f l) ≡ n → length l ≡ n
length_mapped X Y f l n e = sym (length-map l f) ∙ e

-- the test of each as the library's
pub all_is : {A : Type 0} (f : A → Bool) (l : List A) → all f l ≡ list_all f l
unfolding all
all_is f [] = refl
all_is f (x ∷ xs) = ap (λ (b : Bool). f x && b) (all_is f xs)
