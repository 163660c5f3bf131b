-- How many of a list pass a test, by places: of those from some place on none need be looked at where none passes. Assumes nothing.
use mathlib.Core.Path.{◌≡◌, refl, ap, ◌∙◌}
use mathlib.Core.Logic.{⊎_elim}
use mathlib.Core.Bool.{Bool, false}
use mathlib.Core.List.{List, [], ◌∷◌, map}
use Prim.Native.Nat.{ℕ, zero, suc, ◌+◌, ◌≤◌, ◌<◌}
use native.Mathlib.Omega.{arith}
use lib.ListN.{length, get_or}
use Rattle.laws.specs.Below.{sum_to, one?, count_to}
use Rattle.laws.specs.Lists.{keep, many}
use Rattle.laws.specs.Search.{from}
use Rattle.laws.proofs.Tests.{leb-total}
use Rattle.laws.proofs.ListLaws.{many_cons}

-- the first apart from the rest
sum_to-first : (n : ℕ) (f : ℕ → ℕ) → sum_to (suc n) f ≡ f 0 + sum_to n (λ i. f (suc i))
unfolding sum_to
sum_to-first zero f = refl
sum_to-first (suc n) f = let e = sum_to-first n f in omega arith

many_places : {A : Type 0} (f : A → Bool) (d : A) (l : List A) → many f l ≡ count_to (length l) (λ i. f (get_or l i d))
unfolding keep sum_to
many_places f d [] = refl
many_places f d (x ∷ xs) =
    let e = many_cons f x xs in
    let h = many_places f d xs in
    let s = sum_to-first (length xs) (λ i. one? (f (get_or (x ∷ xs) i d))) in
    omega arith

sum_to_less : (n m : ℕ) (f : ℕ → ℕ) → n ≤ m → ((i : ℕ) → n ≤ i → f i ≡ 0) → sum_to m f ≡ sum_to n f
unfolding sum_to
sum_to_less n zero f h z = ap (λ (x : ℕ). sum_to x f) (let e : zero ≡ n = omega arith in e)
sum_to_less n (suc m) f h z =
    ⊎_elim
    (λ k. let e = z m k in let r = sum_to_less n m f k z in omega arith)
    (λ k. ap (λ (x : ℕ). sum_to x f) (let e : suc m ≡ n = omega arith in e))
    (leb-total n m)

pub many-first : {A : Type 0} (f : A → Bool) (d : A) (l : List A) (n : ℕ) → n ≤ length l → ((i : ℕ) → n ≤ i → f (get_or l i d) ≡ false)
    → many f l ≡ count_to n (λ i. f (get_or l i d))
many-first f d l n h z = many_places f d l ∙ sum_to_less n (length l) (λ i. one? (f (get_or l i d))) h (λ i k. ap one? (z i k))

pub mapped_at : {A : Type 0} (f : ℕ → A) (d : A) (k n i : ℕ) → i < n → get_or (map f (from k n)) i d ≡ f (k + i)
unfolding from
mapped_at f d k zero i l = absurd (omega arith)
mapped_at f d k (suc n) zero l = ap f (let e : k ≡ k + 0 = omega arith in e)
mapped_at f d k (suc n) (suc i) l = mapped_at f d (suc k) n i (omega arith) ∙ ap f (let e : suc k + i ≡ k + suc i = omega arith in e)
