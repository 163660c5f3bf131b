-- Tests and sums over the numbers below n. Assumes nothing.
use mathlib.Core.Path.{◌≡◌, refl}
use mathlib.Core.Bool.{Bool, true, false}
use Prim.Native.Nat.{ℕ, zero, suc, ◌+◌, ◌≤◌, ◌<◌}
use native.Mathlib.Omega.{arith}
use lib.Dec.{T, eqb, eqb→eq}
use mir.Facts.{yes_and}
use Rattle.laws.specs.Below.{all_to, sum_to, one?}
use Rattle.laws.proofs.Tests.{test, and_l, and_r, neqb→ne}

pub all_to_at : (n : ℕ) (f : ℕ → Bool) → T (all_to n f) → (i : ℕ) → i < n → T (f i)
unfolding all_to
all_to_at zero f t i h = absurd (omega arith)
all_to_at (suc n) f t i h =
    test (eqb i n)
    (λ y. rw (eqb→eq i n y) (and_l (f n) (all_to n f) t))
    (λ y. let d = neqb→ne i n y in all_to_at n f (and_r (f n) (all_to n f) t) i (omega arith))

pub at_all_to : (n : ℕ) (f : ℕ → Bool) → ((i : ℕ) → i < n → T (f i)) → T (all_to n f)
unfolding all_to
at_all_to zero f h = tt
at_all_to (suc n) f h = yes_and (f n) (all_to n f) (h n (omega arith)) (at_all_to n f (λ i l. h i (omega arith)))

pub sum_to_le : (n : ℕ) (f g : ℕ → ℕ) → ((i : ℕ) → i < n → f i ≤ g i) → sum_to n f ≤ sum_to n g
unfolding sum_to
sum_to_le zero f g h = omega arith
sum_to_le (suc n) f g h = let a = h n (omega arith) in let b = sum_to_le n f g (λ i l. h i (omega arith)) in omega arith

pub sum_to_cong : (n : ℕ) (f g : ℕ → ℕ) → ((i : ℕ) → i < n → f i ≡ g i) → sum_to n f ≡ sum_to n g
unfolding sum_to
sum_to_cong zero f g h = refl
sum_to_cong (suc n) f g h = let a = h n (omega arith) in let b = sum_to_cong n f g (λ i l. h i (omega arith)) in omega arith

pub sum_to-add : (n : ℕ) (f g : ℕ → ℕ) → sum_to n (λ i. f i + g i) ≡ sum_to n f + sum_to n g
unfolding sum_to
sum_to-add zero f g = refl
sum_to-add (suc n) f g = let b = sum_to-add n f g in omega arith

pub sum_to_zero : (n : ℕ) → sum_to n (λ i. 0) ≡ 0
unfolding sum_to
sum_to_zero zero = refl
sum_to_zero (suc n) = let b = sum_to_zero n in omega arith

-- ---- ones

pub one_yes : (b : Bool) → T b → one? b ≡ 1
one_yes true t = refl
one_yes false t = absurd t

pub one_le : (a b : Bool) → (T a → T b) → one? a ≤ one? b
one_le true true h = omega arith
one_le true false h = absurd (h tt)
one_le false b h = omega arith

pub one_eqb : (m n : ℕ) → (m ≡ n → ⊥) → one? (eqb m n) ≡ 0
one_eqb m n d = go (eqb m n) (λ t. d (eqb→eq m n t))
  where
    go : (b : Bool) → (T b → ⊥) → one? b ≡ 0
    go true f = absurd (f tt)
    go false f = refl

-- of the numbers below n none is k, or one
one_none : (n k : ℕ) → n ≤ k → sum_to n (λ i. one? (eqb k i)) ≡ 0
unfolding sum_to
one_none zero k h = refl
one_none (suc n) k h = let a = one_eqb k n (λ e. omega arith) in let b = one_none n k (omega arith) in omega arith

pub one_below : (n k : ℕ) → k < n → sum_to n (λ i. one? (eqb k i)) ≡ 1
unfolding sum_to
one_below zero k h = absurd (omega arith)
one_below (suc n) k h =
    test (eqb k n)
    (λ y. let e = eqb→eq k n y in let a = one_yes (eqb k n) y in let b = one_none n k (omega arith) in omega arith)
    (λ y. let d = neqb→ne k n y in let a = one_eqb k n d in let b = one_below n k (omega arith) in omega arith)
