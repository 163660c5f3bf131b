-- Lists that rise by a number: put in, counted up to a member, compared; and the greatest number. Assumes nothing.
use mathlib.Core.Path.{◌≡◌, refl, sym, ap, ◌∙◌, subst}
use mathlib.Core.Logic.{◌⊎◌, inl, inr, ⊎_elim}
use mathlib.Core.Bool.{Bool, true, not}
use mathlib.Core.List.{List, [], ◌∷◌, ◌++◌, append-nil}
use Prim.Native.Nat.{ℕ, zero, suc, ◌≤◌, ◌<◌}
use native.Mathlib.Omega.{arith}
use lib.Dec.{T, leb, ltb, not_T, leb→le, le→leb, ltb→lt, nltb→le}
use lib.ListN.{length}
use mir.Facts.{clash}
use Rattle.laws.specs.Lists.{In, keep, many, final, Begins, Rising, put, upto, top}
use Rattle.laws.proofs.Tests.{cond_both, leb-total}
use Rattle.laws.proofs.BelowLaws.{one_le}
use Rattle.laws.proofs.ListLaws.{in_left, in_right, in_append, keep_no, keep_yes, in_keep, keep_in, keep_append, keep_none, many_cons, many_le}

module _ {A : Type 0} (key : A → ℕ) where
  -- ---- the members of a rising list

  pub rising_seam : (s t : List A) → Rising key (s ++ t) → (a b : A) → In a s → In b t → key a < key b
  rising_seam [] t r a b m n = absurd m
  rising_seam (x ∷ s) t r a b (inl e) n = let h = r.0 b (in_right b s t n) in let k = ap key e in omega arith
  rising_seam (x ∷ s) t r a b (inr m) n = rising_seam s t r.1 a b m n

  pub rising_keep : (f : A → Bool) (l : List A) → Rising key l → Rising key (keep f l)
  unfolding keep
  rising_keep f [] r = tt
  rising_keep f (x ∷ xs) r =
      let k = rising_keep f xs r.1 in
      cond_both (Rising key) (f x) (x ∷ keep f xs) (keep f xs) (λ y. (λ a m. r.0 a (keep_in f a xs m).0, k)) (λ n. k)

  -- no two have the same number
  pub rising_unique : (l : List A) (a b : A) → Rising key l → In a l → In b l → key a ≡ key b → a ≡ b
  rising_unique [] a b r i j e = absurd i
  rising_unique (x ∷ xs) a b r (inl d) (inl f) e = d ∙ sym f
  rising_unique (x ∷ xs) a b r (inl d) (inr j) e = absurd (let h = r.0 b j in let k = ap key d in omega arith)
  rising_unique (x ∷ xs) a b r (inr i) (inl f) e = absurd (let h = r.0 a i in let k = ap key f in omega arith)
  rising_unique (x ∷ xs) a b r (inr i) (inr j) e = rising_unique xs a b r.1 i j e

  pub final_most : (l : List A) (d m : A) → Rising key l → In m l → key m ≤ key (final l d)
  unfolding final
  final_most [] d m r i = absurd i
  final_most (x ∷ []) d m r (inl e) = let c = ap key e in omega arith
  final_most (x ∷ []) d m r (inr i) = absurd i
  final_most (x ∷ y ∷ l) d m r (inl e) =
      let c = ap key e in
      let h = r.0 y (inl refl) in
      let k = final_most (y ∷ l) x y r.1 (inl refl) in
      omega arith
  final_most (x ∷ y ∷ l) d m r (inr i) = final_most (y ∷ l) x m r.1 i

  -- ---- two rising lists

  -- each holds whatever the other holds at or below something of its own: one begins the other
  pub one_begins : (s t : List A) → Rising key s → Rising key t
      → ((a b : A) → In a s → In b t → key a ≤ key b → In a t)
      → ((a b : A) → In a t → In b s → key a ≤ key b → In a s)
      → Begins s t ⊎ Begins t s
  one_begins [] t rs rt f g = inl (t, refl)
  one_begins (x ∷ s) [] rs rt f g = inr (x ∷ s, refl)
  one_begins (x ∷ s) (y ∷ t) rs rt f g =
      ⊎_elim
      (λ b. inl (b.0, let e = b.1 in let d = same in cc))
      (λ b. inr (b.0, let e = b.1 in let d = same in cc))
      (one_begins s t rs.1 rt.1 f' g')
    where
      same : x ≡ y
      same =
          ⊎_elim
          (λ l. ⊎_elim (λ e. e) (λ m. absurd (let h = rt.0 x m in omega arith)) (f x y (inl refl) (inl refl) l))
          (λ l. ⊎_elim sym (λ m. absurd (let h = rs.0 y m in omega arith)) (g y x (inl refl) (inl refl) (omega arith)))
          (leb-total (key x) (key y))

      f' : (a b : A) → In a s → In b t → key a ≤ key b → In a t
      f' a b m n l = ⊎_elim (λ e. absurd (let h = rs.0 a m in let k = ap key (e ∙ sym same) in omega arith)) (λ k. k) (f a b (inr m) (inr n) l)

      g' : (a b : A) → In a t → In b s → key a ≤ key b → In a s
      g' a b m n l = ⊎_elim (λ e. absurd (let h = rt.0 a m in let k = ap key (e ∙ same) in omega arith)) (λ k. k) (g a b (inr m) (inr n) l)

  -- a list that holds all of a longer one is all of it
  whole : (s r t : List A) → s ++ r ≡ t → Rising key t → ((a : A) → In a t → In a s) → s ≡ t
  whole s [] t e u h = sym (append-nil s) ∙ e
  whole s (x ∷ r) t e u h =
      let i : In x (s ++ x ∷ r) = in_right x s (x ∷ r) (inl refl) in
      absurd (let l = rising_seam s (x ∷ r) (rw e u) x x (h x (subst (In x) e i)) (inl refl) in omega arith)

  -- one whose members the other holds, and which holds whatever the other holds at or below one of them, begins it
  pub begins_of : (s t : List A) → Rising key s → Rising key t → ((a : A) → In a s → In a t) → ((a b : A) → In a t → In b s → key a ≤ key b → In a s)
      → Begins s t
  begins_of s t rs rt f g =
      ⊎_elim (λ b. b) (λ b. ([], append-nil s ∙ sym (whole t b.0 s b.1 rs f))) (one_begins s t rs rt (λ a b i j l. f a i) g)

  pub rising_same : (s t : List A) → Rising key s → Rising key t → ((a : A) → In a s → In a t) → ((a : A) → In a t → In a s) → s ≡ t
  rising_same s t rs rt f g = let b = begins_of s t rs rt f (λ a b i j l. g a i) in whole s b.0 t b.1 rt g

  -- ---- one more in its place

  pub in_put : (a b : A) (l : List A) → In b (put key a l) → (b ≡ a) ⊎ In b l
  unfolding put
  in_put a b [] m = m
  in_put a b (x ∷ xs) m =
      cond_both (λ l. In b l → (b ≡ a) ⊎ In b (x ∷ xs)) (ltb (key a) (key x)) (a ∷ x ∷ xs) (x ∷ put key a xs)
      (λ y k. k)
      (λ n. ⊎_elim (λ e. inr (inl e)) (λ k. ⊎_elim inl (λ j. inr (inr j)) (in_put a b xs k)))
      m

  pub put_in : (a b : A) (l : List A) → (b ≡ a) ⊎ In b l → In b (put key a l)
  unfolding put
  put_in a b [] m = m
  put_in a b (x ∷ xs) m =
      cond_both (In b) (ltb (key a) (key x)) (a ∷ x ∷ xs) (x ∷ put key a xs)
      (λ y. m)
      (λ n. ⊎_elim (λ e. inr (put_in a b xs (inl e))) (⊎_elim inl (λ k. inr (put_in a b xs (inr k)))) m)

  pub rising_put : (a : A) (l : List A) → Rising key l → ((b : A) → In b l → key b ≡ key a → ⊥) → Rising key (put key a l)
  unfolding put
  rising_put a [] r d = (λ y m. absurd m, tt)
  rising_put a (x ∷ xs) r d =
      let k = rising_put a xs r.1 (λ b m. d b (inr m)) in
      cond_both (Rising key) (ltb (key a) (key x)) (a ∷ x ∷ xs) (x ∷ put key a xs)
      (λ y.
      let h = ltb→lt (key a) (key x) y in (λ b. ⊎_elim (λ e. let q = ap key e in omega arith) (λ j. let q = r.0 b j in omega arith), r))
      (λ n.
      let h = nltb→le (key a) (key x) n in
      let w = d x (inl refl) in (λ b m. ⊎_elim (λ e. let q = ap key e in omega arith) (r.0 b) (in_put a b xs m), k))

  put_last : (a : A) (l : List A) → ((b : A) → In b l → key b < key a) → put key a l ≡ l ++ (a ∷ [])
  unfolding put
  put_last a [] h = refl
  put_last a (x ∷ xs) h =
      cond_both (λ l. l ≡ x ∷ (xs ++ (a ∷ []))) (ltb (key a) (key x)) (a ∷ x ∷ xs) (x ∷ put key a xs)
      (λ y. absurd (let p = ltb→lt (key a) (key x) y in let q = h x (inl refl) in omega arith))
      (λ n. ap (λ (l : List A). x ∷ l) (put_last a xs (λ b m. h b (inr m))))

  pub rising_snoc : (a : A) (l : List A) → Rising key l → ((b : A) → In b l → key b < key a) → Rising key (l ++ (a ∷ []))
  rising_snoc a l r h = subst (Rising key) (put_last a l h) (rising_put a l r (λ b i e. let k = h b i in omega arith))

  -- a test sees one more exactly where it passes: not at all, or last if it stands above all that pass
  pub keep-put_no : (f : A → Bool) (a : A) (l : List A) → T (not (f a)) → keep f (put key a l) ≡ keep f l
  unfolding put keep
  keep-put_no f a [] n = keep_no f a [] n
  keep-put_no f a (x ∷ xs) n =
      cond_both (λ l. keep f l ≡ keep f (x ∷ xs)) (ltb (key a) (key x)) (a ∷ x ∷ xs) (x ∷ put key a xs)
      (λ y. keep_no f a (x ∷ xs) n)
      (λ k. rw (keep-put_no f a xs n))

  pub keep-put-last : (f : A → Bool) (a : A) (l : List A) → Rising key l → T (f a) → ((b : A) → In b l → T (f b) → key b < key a)
      → ((b : A) → In b l → key b ≡ key a → ⊥) → keep f (put key a l) ≡ keep f l ++ (a ∷ [])
  keep-put-last f a l r t h d =
      rising_same (keep f (put key a l)) (keep f l ++ (a ∷ [])) (rising_keep f (put key a l) (rising_put a l r d))
      (rising_snoc a (keep f l) (rising_keep f l r) (λ b m. h b (keep_in f b l m).0 (keep_in f b l m).1))
      (λ b m.
      let k = keep_in f b (put key a l) m in
      ⊎_elim (λ e. in_right b (keep f l) (a ∷ []) (inl e)) (λ j. in_left b (keep f l) (a ∷ []) (in_keep f b l j k.1)) (in_put a b l k.0))
      (λ b m.
      ⊎_elim
      (λ j. let k = keep_in f b l j in in_keep f b (put key a l) (put_in a b l (inr k.0)) k.1)
      (⊎_elim (λ e. in_keep f b (put key a l) (put_in a b l (inl e)) (subst (λ c. T (f c)) (sym e) t)) absurd)
      (in_append b (keep f l) (a ∷ []) m))

  -- ---- how many are at or below one: its number

  -- more above it leaves its number alone
  pub upto_begins : (s t : List A) → Begins s t → Rising key t → (a : A) → In a s → upto key t a ≡ upto key s a
  unfolding upto
  upto_begins s t b r a i =
      let f : A → Bool = λ x. leb (key x) (key a) in
      let up : Rising key (s ++ b.0) = subst (Rising key) (sym b.1) r in
      let above : (x : A) → In x b.0 → T (not (f x)) = λ x j. not_T (f x) (λ y. clash (rising_seam s b.0 up a x i j) (leb→le (key x) (key a) y)) in
      let e : keep f b.0 ≡ [] = keep_none f b.0 above in
      ap (many f) (sym b.1) ∙ rw (keep_append f s b.0, e, append-nil (keep f s))

  upto_head : (x : A) (xs : List A) (a : A) → key x ≤ key a → upto key (x ∷ xs) a ≡ suc (upto key xs a)
  unfolding upto
  upto_head x xs a h = ap length (keep_yes (λ b. leb (key b) (key a)) x xs (le→leb (key x) (key a) h))

  -- those whose number is at most n are at most n
  pub upto-few : (l : List A) (n : ℕ) → Rising key l → many (λ a. leb (upto key l a) n) l ≤ n
  unfolding keep
  upto-few [] n r = omega arith
  upto-few (x ∷ xs) zero r =
      let f : A → Bool = λ a. leb (upto key (x ∷ xs) a) 0 in
      let e = ap length (keep_none f (x ∷ xs) (λ a m. not_T (f a) (λ y.
      let p = leb→le (upto key (x ∷ xs) a) 0 y in
      let q = upto_head x xs a (⊎_elim (λ d. let w = ap key d in omega arith) (λ j. let w = r.0 a j in omega arith) m) in
      omega arith))) in
      omega arith
  upto-few (x ∷ xs) (suc n) r =
      let f : A → Bool = λ a. leb (upto key (x ∷ xs) a) (suc n) in
      let a = many_cons f x xs in
      let b = upto-few xs n r.1 in
      let c = many_le f (λ a. leb (upto key xs a) n) xs (λ a m y.
      let p = leb→le (upto key (x ∷ xs) a) (suc n) y in
      let q = upto_head x xs a (let w = r.0 a m in omega arith) in
      le→leb (upto key xs a) n (omega arith)) in
      let d = one_le (f x) true (λ y. tt) in
      omega arith

  -- ---- the greatest

  pub le_top : (a : A) (l : List A) → In a l → key a ≤ top key l
  unfolding top
  le_top a [] m = absurd m
  le_top a (x ∷ xs) (inl e) = let k = ap key e in omega arith
  le_top a (x ∷ xs) (inr m) = let k = le_top a xs m in omega arith

  pub top_lt : (l : List A) (n : ℕ) → 0 < n → ((a : A) → In a l → key a < n) → top key l < n
  unfolding top
  top_lt [] n z h = z
  top_lt (x ∷ xs) n z h = let k = top_lt xs n z (λ a m. h a (inr m)) in let j = h x (inl refl) in omega arith

  pub top_mono : (l t : List A) → ((a : A) → In a l → In a t) → top key l ≤ top key t
  top_mono l t h = let k = top_lt l (suc (top key t)) (omega arith) (λ a m. let j = le_top a t (h a m) in omega arith) in omega arith
