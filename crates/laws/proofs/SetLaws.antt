-- A list of numbers with one of them raised. Assumes nothing.
use mathlib.Core.Path.{◌≡◌, sym, ap, ◌∙◌}
use mathlib.Core.Logic.{◌⊎◌, inl, inr, ⊎_elim, by_cases}
use mathlib.Core.List.{List}
use Prim.Native.Nat.{ℕ, ◌≤◌, ◌<◌}
use native.Mathlib.Omega.{arith}
use native.Mathlib.Decide.{ℕ_discrete}
use lib.ListN.{length, get_or, set}
use lib.Seq.{get_or-set_same, get_or-set_other, set_out}
use Rattle.laws.specs.Below.{sum_to}
use Rattle.laws.proofs.Tests.{leb-total}
use Rattle.laws.proofs.SumLaws.{sum_to_change}

module _ (l : List ℕ) (z x : ℕ) where
  -- each is what it was, or x at z
  set_which : (i : ℕ) → (get_or (set l z x) i 0 ≡ get_or l i 0) ⊎ ((i ≡ z) × (get_or (set l z x) i 0 ≡ x))
  set_which i =
      by_cases (ℕ_discrete i z)
      (λ e. ⊎_elim
      (λ h. inl (ap (λ (k : List ℕ). get_or k i 0) (set_out l z x h)))
      (λ h. inr (e, ap (λ (k : ℕ). get_or (set l z x) k 0) e ∙ get_or-set_same l z x 0 h))
      (leb-total (length l) z))
      (λ d. inl (get_or-set_other l z i x 0 d))

  pub set_up : get_or l z 0 ≤ x → (i : ℕ) → get_or l i 0 ≤ get_or (set l z x) i 0
  set_up h i = ⊎_elim (λ e. omega arith) (λ e. let a = e.1 in let b = ap (λ (k : ℕ). get_or l k 0) e.0 in omega arith) (set_which i)

  pub set_below : (c : ℕ) → x ≤ c → (i : ℕ) → get_or l i 0 ≤ c → get_or (set l z x) i 0 ≤ c
  set_below c h i k = ⊎_elim (λ e. omega arith) (λ e. let a = e.1 in omega arith) (set_which i)

  pub sum_set : (n : ℕ) → z < n → z < length l → get_or l z 0 < x → sum_to n (λ i. get_or l i 0) < sum_to n (λ i. get_or (set l z x) i 0)
  sum_set n h k m =
      let a = sum_to_change n z (λ i. get_or l i 0) (λ i. get_or (set l z x) i 0) h (λ i j d. sym (get_or-set_other l z i x 0 d)) in
      let b = get_or-set_same l z x 0 k in
      omega arith
