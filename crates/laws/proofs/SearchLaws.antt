-- What is found in a list, bytes that are the same, runs of numbers and pairs. Assumes nothing.
use mathlib.Core.Path.{◌≡◌, refl, ap, ◌∙◌, sym, subst}
use mathlib.Core.Logic.{inl, inr, ⊎_elim}
use mathlib.Core.Bool.{Bool, true, false}
use mathlib.Core.List.{List, [], ◌∷◌, map}
use Prim.Native.Nat.{ℕ, zero, suc, ◌+◌, ◌≤◌, ◌<◌}
use native.Mathlib.Omega.{arith}
use native.Mathlib.Nat.{eq-or-lt_of_le}
use denote.Floats.{passes}
use lib.Dec.{T, T_not}
use lib.Ieee.Bits.{is_true, is_false}
use Rattle.laws.specs.Lists.{In}
use Rattle.laws.proofs.Tests.{test, cond_both}
use Rattle.laws.proofs.ListLaws.{in_left, in_right}
use Rattle.laws.specs.Search.{from, pairs}
use Rattle.std.specs.Str.{bytes_eq}
use Rattle.std.proofs.lemmas.Slice.Eq.{bytes_eq-Decides}
use Rattle.std.specs.Prelude.{Option, Some, None, option_and_then, find}
use Rattle.std.specs.Bool.{then_some}

-- bytes that are the same
pub same : (s t : List ℕ) → T (bytes_eq s t) → s ≡ t
same s t h = (bytes_eq-Decides s t).0 (is_true (bytes_eq s t) h)

pub is_same : (s t : List ℕ) → s ≡ t → T (bytes_eq s t)
is_same s t e = passes (bytes_eq s t) ((bytes_eq-Decides s t).1 e)

module _ {A : Type 0} where
  -- only one can pass, and it is there
  find_is : (f : A → Bool) (g : A) (l : List A) → In g l → T (f g) → ((a : A) → In a l → T (f a) → a ≡ g) → find f l ≡ Some g
  find_is f g [] i t h = absurd i
  find_is f g (x ∷ xs) i t h =
      test (f x)
      (λ y. rw (is_true (f x) y) (ap Some (h x (inl refl) y)))
      (λ n. rw (is_false (f x) n) (⊎_elim (λ e. absurd (T_not (f x) n (subst (λ (a : A). T (f a)) e t))) (λ j. find_is f g xs j t (λ a k. h a (inr k))) i))

  find_none : (f : A → Bool) (l : List A) → ((a : A) → In a l → T (f a) → ⊥) → find f l ≡ None
  find_none f [] h = refl
  find_none f (x ∷ xs) h = test (f x) (λ y. absurd (h x (inl refl) y)) (λ n. rw (is_false (f x) n) (find_none f xs (λ a k. h a (inr k))))

  -- what holds of each, and of none, holds of what is found
  pub find_has : (P : Option A → Type 0) (f : A → Bool) (l : List A) → P None → ((a : A) → In a l → P (Some a)) → P (find f l)
  find_has P f [] z h = z
  find_has P f (x ∷ xs) z h = cond_both P (f x) (Some x) (find f xs) (λ y. h x (inl refl)) (λ n. find_has P f xs z (λ a i. h a (inr i)))

  pub find_cong : (f g : A → Bool) (l : List A) → ((a : A) → In a l → f a ≡ g a) → find f l ≡ find g l
  find_cong f g [] h = refl
  find_cong f g (x ∷ xs) h = rw (h x (inl refl), find_cong f g xs (λ a i. h a (inr i)))

  -- a function that finds each of a list
  pub finds : {B : Type 0} (f : A → B) (g : A → B) (l : List A) → map f l ≡ map g l → (a : A) → In a l → f a ≡ g a
  finds f g [] e a i = absurd i
  finds f g (x ∷ xs) e a (inl p) = ap f p ∙ (cc) ∙ sym (ap g p)
  finds f g (x ∷ xs) e a (inr i) = finds f g xs (cc) a i

  -- Each has its own text, and `read` reads a text: then the one of the list whose text a line is, is what is read of the line, if that fits.
  module _ (words : A → List ℕ) (read : List ℕ → Option A) (l : List A) (fits : A → Bool)
      (there : (a : A) → T (fits a) → In a l)
      (only : (a : A) → In a l → T (fits a))
      (again : (a : A) → In a l → read (words a) ≡ Some a)
      (says : (line : List ℕ) (a : A) → read line ≡ Some a → words a ≡ line)
      (line : List ℕ)
    where
      is_read : (a : A) → In a l → T (bytes_eq (words a) line) → Some a ≡ read line
      is_read a i t = sym (again a i) ∙ ap read (same (words a) line t)

      pub reads : (o : Option A) → o ≡ read line → option_and_then (λ a. then_some (fits a) a) o ≡ find (λ a. bytes_eq (words a) line) l
      reads None e = sym (find_none (λ a. bytes_eq (words a) line) l (λ a i t. let p = is_read a i t in cc))
      reads (Some g) e = go (fits g) refl
        where
          same_read : (a : A) → In a l → T (bytes_eq (words a) line) → a ≡ g
          same_read a i t = let p = is_read a i t in cc

          go : (t : Bool) → fits g ≡ t → then_some t g ≡ find (λ a. bytes_eq (words a) line) l
          go true p = sym (find_is (λ a. bytes_eq (words a) line) g l (there g (passes (fits g) p)) (is_same (words g) line (says line g (sym e))) same_read)
          go false p = sym (find_none (λ a. bytes_eq (words a) line) l (λ a i t. subst T (ap fits (same_read a i t) ∙ p) (only a i)))

pub in_map : {A B : Type 0} (f : A → B) (a : A) (l : List A) → In a l → In (f a) (map f l)
in_map f a [] i = absurd i
in_map f a (x ∷ xs) (inl e) = inl (ap f e)
in_map f a (x ∷ xs) (inr i) = inr (in_map f a xs i)

pub in_pairs : {A : Type 0} (f : ℕ → ℕ → A) (x y : ℕ) (xs ys : List ℕ) → In x xs → In y ys → In (f x y) (pairs f xs ys)
unfolding pairs
in_pairs f x y [] ys i j = absurd i
in_pairs f x y (z ∷ xs) ys (inl e) j = in_left (f x y) (map (f z) ys) (pairs f xs ys) (subst (λ (w : ℕ). In (f x y) (map (f w) ys)) e (in_map (f x) y ys j))
in_pairs f x y (z ∷ xs) ys (inr i) j = in_right (f x y) (map (f z) ys) (pairs f xs ys) (in_pairs f x y xs ys i j)

pub in_from : (k n i : ℕ) → k ≤ i → i < k + n → In i (from k n)
unfolding from
in_from k zero i h l = absurd (omega arith)
in_from k (suc n) i h l = ⊎_elim (λ e. inl (sym e)) (λ m. inr (in_from (suc k) n i m (omega arith))) (eq-or-lt_of_le h)
