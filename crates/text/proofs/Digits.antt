-- Decimal digits one by one, from the last to the first; how many there are, and that room for more changes nothing. Assumes nothing.
use mathlib.Core.Path.{◌≡◌, refl, ap, ◌∙◌, sym}
use mathlib.Core.Logic.{⊎_elim}
use mathlib.Core.List.{List, [], ◌∷◌, ◌++◌}
use Prim.Native.Nat.{ℕ, zero, suc, ◌+◌, ◌/◌, ◌%◌, ◌^◌, ◌≤◌, ◌<◌}
use native.Mathlib.Omega.{arith}
use native.Mathlib.Nat.{pow-suc}
use borrow.Author.Tests.{lt-ltb, le-ltb}
use lib.ListN.{length, length-append}
use Rattle.laws.proofs.Tests.{leb-total}
use Rattle.std.specs.Fmt as std
use Rattle.std.proofs.lemmas.Fmt.{decimal_digit, decimal_step}
use Rattle.text.specs.Decimal.{digits, decimal}

pub digits_one : (k n : ℕ) → n < 10 → digits (suc k) n ≡ (48 + n) ∷ []
unfolding digits
digits_one k n h = rw (lt-ltb n 10 h)

pub digits_more : (k n : ℕ) → 10 ≤ n → digits (suc k) n ≡ digits k (n / 10) ++ ((48 + n % 10) ∷ [])
unfolding digits
digits_more k n h = rw (le-ltb n 10 h)

pub digits-few : (k n : ℕ) → length (digits k n) ≤ k
unfolding digits
digits-few zero n = omega arith
digits-few (suc k) n =
    ⊎_elim
    (λ h. let e = ap length (digits_more k n h) in let l = length-append (digits k (n / 10)) ((48 + n % 10) ∷ []) in let m = digits-few k (n / 10) in omega arith)
    (λ h. let e = ap length (digits_one k n h) in omega arith)
    (leb-total 10 n)

-- a digit less, and a power less
pub tenth : (k n : ℕ) → n < 10 ^ suc k → n / 10 < 10 ^ k
tenth k n h = let e = pow-suc 10 k in omega arith

-- as many digits as the number has are enough
pub digits_enough : (j k n : ℕ) → n < 10 ^ suc j → n < 10 ^ suc k → digits (suc j) n ≡ digits (suc k) n
digits_enough zero zero n p q = refl
digits_enough zero (suc k) n p q = digits_one zero n p ∙ sym (digits_one (suc k) n p)
digits_enough (suc j) zero n p q = digits_one (suc j) n q ∙ sym (digits_one zero n q)
digits_enough (suc j) (suc k) n p q =
    ⊎_elim
    (λ h.
    digits_more (suc j) n h
    ∙ ap (λ (l : List ℕ). l ++ ((48 + n % 10) ∷ [])) (digits_enough j k (n / 10) (tenth (suc j) n p) (tenth (suc k) n q))
    ∙ sym (digits_more (suc k) n h))
    (λ h. digits_one (suc j) n h ∙ sym (digits_one (suc k) n h))
    (leb-total 10 n)

-- the library's text of a number
pub same_decimal : (n : ℕ) → n < 2 ^ 64 → std.decimal n ≡ decimal n
same_decimal n h = go 19 n (omega arith) h
  where
    go : (k n : ℕ) → n < 10 ^ suc k → n < 2 ^ 64 → std.decimal n ≡ digits (suc k) n
    go zero n p h = decimal_digit n p ∙ sym (digits_one zero n p)
    go (suc k) n p h =
        ⊎_elim
        (λ l. decimal_step n l h ∙ ap (λ (t : List ℕ). t ++ ((48 + n % 10) ∷ [])) (go k (n / 10) (tenth (suc k) n p) (omega arith)) ∙ sym (digits_more (suc k) n l))
        (λ l. decimal_digit n l ∙ sym (digits_one (suc k) n l))
        (leb-total 10 n)
