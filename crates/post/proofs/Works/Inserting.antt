-- A message is put among those that wait, at the place that halving finds. Assumes nothing.
use mathlib.Core.Path.{◌≡◌, refl, ap, ap₂, ◌∙◌, sym}
use mathlib.Core.Logic.{inl, inr}
use mathlib.Core.Bool.{true, false}
use mathlib.Core.List.{List, [], ◌∷◌, ◌++◌, append_assoc, append-nil}
use Prim.Native.Nat.{ℕ, zero, suc, ◌+◌, ◌-◌, ◌≤◌, ◌<◌}
use native.Mathlib.Omega.{arith}
use borrow.Author.Tests.{lt-ltb, le-ltb, leb-true, leb-false}
use lib.Dec.{leb}
use lib.ListN.{length, get_or, take, drop, set, length-append}
use lib.Seq.{set_split, take-take, length-take-le, drop_at}
use Rattle.std.specs.List.Sorted.{IsPartitionPoint}
use Rattle.std.proofs.lemmas.List.{take-append-le, drop_all}
use Rattle.std.specs.List.{insert, copy_within}
use Rattle.std.proofs.lemmas.Slice.{between_is}
use Rattle.laws.specs.Lists.{In, Rising, put}

in_place : {A : Type 0} (l : List A) (i : ℕ) (d : A) → i < length l → In (get_or l i d) l
in_place [] i d h = absurd (omega arith)
in_place (x ∷ xs) zero d h = inl refl
in_place (x ∷ xs) (suc i) d h = inr (in_place xs i d (omega arith))

module _ {A : Type 0} (key : A → ℕ) where
  -- a list that rises, by its places
  pub rises_on : (l : List A) → Rising key l → (i j : ℕ) (d : A) → i ≤ j → j < length l → key (get_or l i d) ≤ key (get_or l j d)
  rises_on [] r i j d h k = absurd (omega arith)
  rises_on (x ∷ xs) r zero zero d h k = omega arith
  rises_on (x ∷ xs) r zero (suc j) d h k = let e = r.0 (get_or xs j d) (in_place xs j d (omega arith)) in omega arith
  rises_on (x ∷ xs) r (suc i) zero d h k = absurd (omega arith)
  rises_on (x ∷ xs) r (suc i) (suc j) d h k = rises_on xs r.1 i j d (omega arith) (omega arith)

  -- one inserted after all that have a key up to its own, and before all that have one above
  pub inserted : (a : A) (l : List A) (i : ℕ) → i ≤ length l
      → ((k : ℕ) (d : A) → k < i → key (get_or l k d) ≤ key a) → ((k : ℕ) (d : A) → i ≤ k → k < length l → key a < key (get_or l k d))
      → insert l i a ≡ put key a l
  unfolding put
  inserted a [] zero h f g = refl
  inserted a [] (suc i) h f g = absurd (omega arith)
  inserted a (x ∷ xs) zero h f g = rw (lt-ltb (key a) (key x) (g 0 x (omega arith) (omega arith)))
  inserted a (x ∷ xs) (suc i) h f g =
      rw (le-ltb (key a) (key x) (f 0 x (omega arith)))
      (ap (λ (l : List A). x ∷ l) (inserted a xs i (omega arith) (λ k d q. f (suc k) d (omega arith)) (λ k d q r. g (suc k) d (omega arith) (omega arith))))

-- what stands from i on moves one place up, over the last, and one is stored at i
shifted : {A : Type 0} (l : List A) (i n : ℕ) (a : A) → i ≤ n → length l ≡ suc n → set (copy_within l i n (i + 1)) i a ≡ insert (take n l) i a
shifted l i n a h k =
    let front = take (i + 1) l in
    let mid = take (n - i) (drop i l) in
    let end = drop (i + 1 + (n - i)) l in
    let len : length front ≡ i + 1 = length-take-le (i + 1) l (omega arith) in
    let long = length-append (front ++ mid) end in
    let both = length-append front mid in
    let none : end ≡ [] = drop_all (i + 1 + (n - i)) l (omega arith) in
    set_split ((front ++ mid) ++ end) i a (omega arith)
    ∙ ap₂ (λ (x y : List _). x ++ a ∷ y)
    (take-append-le i (front ++ mid) end (omega arith) ∙ take-append-le i front mid (omega arith) ∙ take-take i (i + 1) l (omega arith) ∙ sym (take-take i n l h))
    (ap (drop (suc i)) (append_assoc front mid end) ∙ drop_at front (mid ++ end) (suc i) (omega arith) ∙ ap (λ (x : List _). mid ++ x) none ∙ append-nil mid ∙ between_is l i n)

-- put where the search says, for the key t
pub put_in : {A : Type 0} (key : A → ℕ) (l : List A) (a : A) (i : ℕ) {t : ℕ} → t ≡ key a → 0 < length l → i ≤ length (take (length l - 1) l)
    → IsPartitionPoint (λ y. leb (key y) t ≡ true) (λ y. leb (key y) t ≡ false) (take (length l - 1) l) i
    → set (copy_within l i (length l - 1) (i + 1)) i a ≡ put key a (take (length l - 1) l)
put_in key l a i e z h p =
    let n = length l - 1 in
    let len = length-take-le n l (omega arith) in
    shifted l i n a (omega arith) (omega arith)
    ∙ inserted key a (take n l) i h
    (λ k d q. let b = leb-true _ _ (p.0 k d (omega arith) q) in omega arith)
    (λ k d q r. let b = leb-false _ _ (p.1 k d q r) in omega arith)
