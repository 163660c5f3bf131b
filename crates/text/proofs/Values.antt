-- Digits stand for their number, and the first of several is no 0: so a number's text is the one that decimal without leading zeros is. Assumes nothing.
use mathlib.Core.Path.{◌≡◌, ap, ◌∙◌}
use mathlib.Core.Logic.{⊎_elim}
use mathlib.Core.List.{List, [], ◌∷◌, ◌++◌}
use Prim.Native.Nat.{ℕ, zero, suc, ◌+◌, ◌-◌, ◌*◌, ◌/◌, ◌%◌, ◌^◌, ◌≤◌, ◌<◌}
use native.Mathlib.Omega.{arith}
use lib.ListN.{get_or}
use Rattle.laws.proofs.Tests.{leb-total}
use Rattle.text.specs.Decimal.{digits, value_on}
use Rattle.text.proofs.Digits.{digits_one, digits_more, tenth}

value_more : (v d : ℕ) (l : List ℕ) → value_on v (l ++ ((48 + d) ∷ [])) ≡ value_on v l * 10 + d
value_more v d [] = omega arith
value_more v d (b ∷ bs) = value_more (v * 10 + (b - 48)) d bs

first_more : (b : ℕ) (l : List ℕ) → 49 ≤ get_or l 0 0 → 49 ≤ get_or (l ++ (b ∷ [])) 0 0
first_more b [] h = absurd (omega arith)
first_more b (x ∷ xs) h = h

value_one : (k n : ℕ) → n < 10 → value_on 0 (digits (suc k) n) ≡ n
value_one k n h = ap (value_on 0) (digits_one k n h) ∙ (let e : 0 * 10 + (48 + n - 48) ≡ n = omega arith in e)

first_one : (k n : ℕ) → n < 10 → 1 ≤ n → 49 ≤ get_or (digits (suc k) n) 0 0
first_one k n h p = rw (digits_one k n h) (omega arith)

pub digits_value : (k n : ℕ) → n < 10 ^ suc k → value_on 0 (digits (suc k) n) ≡ n
digits_value zero n h = value_one zero n h
digits_value (suc k) n h =
    ⊎_elim
    (λ l.
    let e = digits_value k (n / 10) (tenth (suc k) n h) in
    ap (value_on 0) (digits_more (suc k) n l) ∙ value_more 0 (n % 10) (digits (suc k) (n / 10)) ∙ (let f : value_on 0 (digits (suc k) (n / 10)) * 10 + n % 10 ≡ n = omega arith in f))
    (value_one (suc k) n)
    (leb-total 10 n)

pub no_leading_zero : (k n : ℕ) → n < 10 ^ suc k → 1 ≤ n → 49 ≤ get_or (digits (suc k) n) 0 0
no_leading_zero zero n h p = first_one zero n h p
no_leading_zero (suc k) n h p =
    ⊎_elim
    (λ l. rw (digits_more (suc k) n l) (first_more (48 + n % 10) (digits (suc k) (n / 10)) (no_leading_zero k (n / 10) (tenth (suc k) n h) (omega arith))))
    (λ l. first_one (suc k) n l p)
    (leb-total 10 n)
