-- Over the numbers below n: a test of each, a sum, the least, and those that pass a test as a set of bits.
use Rattle.std.specs.Prelude.{Bool, true, cond, ◌&&◌, ℕ, zero, suc, ◌+◌, ◌^◌, min, eqb}

unfoldable pub all_to : ℕ → (ℕ → Bool) → Bool
all_to zero f = true
all_to (suc n) f = f n && all_to n f

unfoldable pub sum_to : ℕ → (ℕ → ℕ) → ℕ
sum_to zero f = 0
sum_to (suc n) f = f n + sum_to n f

-- the least of f over all but one; d where there is none
unfoldable pub least_to : ℕ → ℕ → ℕ → (ℕ → ℕ) → ℕ
least_to zero but d f = d
least_to (suc n) but d f = cond (eqb n but) (least_to n but d f) (min (f n) (least_to n but d f))

-- 1 for a test that passes
abbrev pub one? : Bool → ℕ
one? t = cond t 1 0

-- how many pass
abbrev pub count_to : ℕ → (ℕ → Bool) → ℕ
count_to n f = sum_to n (λ i. one? (f i))

-- bit i is set where i passes
abbrev pub bits_to : ℕ → (ℕ → Bool) → ℕ
bits_to n f = sum_to n (λ i. cond (f i) (2 ^ i) 0)
