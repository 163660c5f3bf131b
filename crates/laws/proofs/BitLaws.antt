-- Sets as bits: setting a bit by a sum, and the count of ones. Assumes nothing.
use Prim.Native.Nat.{ℕ, zero, suc, ◌+◌, ◌*◌, ◌^◌, ◌%◌, ◌<◌}
use mathlib.Core.Path.{◌≡◌, refl, ap, ◌∙◌, sym}
use mathlib.Core.Bool.{Bool, true, false, cond}
use native.Mathlib.Omega.{arith}
use native.Mathlib.Nat.{one-mul, zero-mul, pow-suc}
use lib.Dec.{lit<}
use lib.Pow.{shl_exact}
use lib.Bits.{bit_or}
use Rattle.std.proofs.lemmas.Nat.{or_comm, or_shifted}
use lib.Count.{ones, ones_cat}
use Rattle.laws.specs.Below.{sum_to, one?, count_to, bits_to}
use Rattle.laws.proofs.BelowLaws.{sum_to_cong, sum_to_zero}

-- one more bit, above all that are set
pub bit_set : (w r x : ℕ) → r < w → x < 2 ^ r → bit_or x ((1 * 2 ^ r) % 2 ^ w) ≡ 2 ^ r + x
bit_set w r x h k =
    ap (bit_or x) (shl_exact {a = 1} 1 r w (lit< tt) (omega arith))
    ∙ or_comm x (1 * 2 ^ r)
    ∙ or_shifted 1 r x k
    ∙ ap (λ (y : ℕ). y + x) (one-mul (2 ^ r))

two : (n : ℕ) (b : Bool) (x : ℕ) → x < 2 ^ n → cond b (2 ^ n) 0 + x < 2 ^ suc n
two n true x h = rw pow-suc (omega arith)
two n false x h = rw pow-suc (omega arith)

one_more : (n : ℕ) (b : Bool) (x : ℕ) → x < 2 ^ n → ones (cond b (2 ^ n) 0 + x) ≡ one? b + ones x
unfolding ones
one_more n true x h = ap (λ (y : ℕ). ones (y + x)) (sym (one-mul (2 ^ n))) ∙ ones_cat n 1 x h
one_more n false x h = ap (λ (y : ℕ). ones (y + x)) (sym (zero-mul (2 ^ n))) ∙ ones_cat n 0 x h

module _ (f : ℕ → Bool) where
  pub bits_lt : (n : ℕ) → bits_to n f < 2 ^ n
  unfolding sum_to
  bits_lt zero = lit< tt
  bits_lt (suc n) = two n (f n) (bits_to n f) (bits_lt n)

  -- the count of ones is the number of those that pass
  pub ones_bits : (n : ℕ) → ones (bits_to n f) ≡ count_to n f
  unfolding ones sum_to
  ones_bits zero = refl
  ones_bits (suc n) = one_more n (f n) (bits_to n f) (bits_lt n) ∙ ap (λ (y : ℕ). one? (f n) + y) (ones_bits n)

-- sets by tests that agree, and the set of none
pub bits_cong : (n : ℕ) (f g : ℕ → Bool) → ((i : ℕ) → i < n → f i ≡ g i) → bits_to n f ≡ bits_to n g
bits_cong n f g h = sum_to_cong n _ _ (λ i l. ap (λ (b : Bool). cond b (2 ^ i) 0) (h i l))

pub bits_none : (n : ℕ) (f : ℕ → Bool) → ((i : ℕ) → i < n → f i ≡ false) → bits_to n f ≡ 0
bits_none n f h = bits_cong n f (λ i. false) h ∙ sum_to_zero n

pub count_none : (n : ℕ) (f : ℕ → Bool) → ((i : ℕ) → i < n → f i ≡ false) → count_to n f ≡ 0
count_none n f h = sum_to_cong n _ _ (λ i l. ap one? (h i l)) ∙ sum_to_zero n
