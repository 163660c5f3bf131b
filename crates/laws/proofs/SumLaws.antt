-- Sums over the numbers below n: changed at one place, bounded, and over more numbers. Assumes nothing.
use mathlib.Core.Path.{◌≡◌, refl, sym, ap}
use mathlib.Core.Bool.{cond}
use Prim.Native.Nat.{ℕ, zero, suc, ◌+◌, ◌*◌, ◌≤◌, ◌<◌}
use native.Mathlib.Omega.{arith}
use native.Mathlib.Nat.{suc-mul}
use lib.Dec.{eqb, eqb→eq}
use borrow.Author.Tests.{eq-eqb, ne_eqb}
use Rattle.laws.specs.Below.{sum_to}
use Rattle.laws.proofs.Tests.{test, neqb→ne}
use Rattle.laws.proofs.BelowLaws.{sum_to_cong}

-- two that differ at k only
pub sum_to_change : (n k : ℕ) (f g : ℕ → ℕ) → k < n → ((i : ℕ) → i < n → (i ≡ k → ⊥) → f i ≡ g i) → sum_to n g + f k ≡ sum_to n f + g k
unfolding sum_to
sum_to_change zero k f g l h = absurd (omega arith)
sum_to_change (suc n) k f g l h =
    test (eqb k n)
    (λ y. let e = eqb→eq k n y in
    let a = sum_to_cong n f g (λ i j. h i (omega arith) (λ d. omega arith)) in
    let b = ap f e in let c = ap g e in omega arith)
    (λ y. let d = neqb→ne k n y in
    let a = sum_to_change n k f g (omega arith) (λ i j. h i (omega arith)) in
    let b = h n (omega arith) (λ z. d (sym z)) in omega arith)

-- c more at k
pub sum_to_point : (n k c : ℕ) (f : ℕ → ℕ) → k < n → sum_to n (λ i. cond (eqb k i) c 0 + f i) ≡ c + sum_to n f
sum_to_point n k c f l =
    let a = sum_to_change n k f (λ i. cond (eqb k i) c 0 + f i) l (λ i j d. rw (ne_eqb k i (λ e. d (sym e))) (omega arith)) in
    let b : cond (eqb k k) c 0 ≡ c = rw (eq-eqb k k refl) in
    omega arith

pub sum_to_most : (n c : ℕ) (f : ℕ → ℕ) → ((i : ℕ) → i < n → f i ≤ c) → sum_to n f ≤ n * c
unfolding sum_to
sum_to_most zero c f h = omega arith
sum_to_most (suc n) c f h = let a = h n (omega arith) in let b = sum_to_most n c f (λ i l. h i (omega arith)) in let e = suc-mul n c in omega arith

-- d less at k
pub sum_to_but : (n k c d : ℕ) (f : ℕ → ℕ) → k < n → f k + d ≤ c → ((i : ℕ) → i < n → (i ≡ k → ⊥) → f i ≤ c) → sum_to n f + d ≤ n * c
sum_to_but n k c d f l h rest =
    let a = sum_to_point n k d f l in
    let b = sum_to_most n c (λ i. cond (eqb k i) d 0 + f i) each in
    omega arith
  where
    each : (i : ℕ) → i < n → cond (eqb k i) d 0 + f i ≤ c
    each i j =
        test (eqb k i)
        (λ y. let e = eqb→eq k i y in let u = ap f e in rw (eq-eqb k i e) (omega arith))
        (λ y. let z = neqb→ne k i y in let u = rest i j (λ e. z (sym e)) in rw (ne_eqb k i z) (omega arith))

-- over more numbers
pub sum_to_grows : (n m : ℕ) (f : ℕ → ℕ) → n ≤ m → sum_to n f ≤ sum_to m f
unfolding sum_to
sum_to_grows n zero f h = rw (let e : n ≡ 0 = omega arith in e) (omega arith)
sum_to_grows n (suc m) f h =
    test (eqb n (suc m))
    (λ y. rw (eqb→eq n (suc m) y) (omega arith))
    (λ y. let d = neqb→ne n (suc m) y in let r = sum_to_grows n m f (omega arith) in omega arith)
