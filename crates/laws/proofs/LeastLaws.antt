-- The least over the numbers below n but one. Assumes nothing.
use mathlib.Core.Path.{◌≡◌, refl, sym, ap, ◌∙◌}
use mathlib.Core.Logic.{◌⊎◌, inl, inr, ⊎_elim}
use Prim.Native.Nat.{ℕ, zero, suc, ◌≤◌, ◌<◌, min}
use native.Mathlib.Omega.{arith}
use lib.Dec.{eqb, eqb→eq}
use Rattle.laws.specs.Below.{least_to}
use Rattle.laws.proofs.Tests.{test, cond_both, neqb→ne, leb-total}

module _ (but d : ℕ) (f : ℕ → ℕ) where
  pub least_most : (n : ℕ) → least_to n but d f ≤ d
  unfolding least_to
  least_most zero = omega arith
  least_most (suc n) =
      let r = least_most n in
      cond_both (λ x. x ≤ d) (eqb n but) (least_to n but d f) (min (f n) (least_to n but d f)) (λ y. r) (λ y. omega arith)

  pub least_le : (n q : ℕ) → q < n → (q ≡ but → ⊥) → least_to n but d f ≤ f q
  unfolding least_to
  least_le zero q l o = absurd (omega arith)
  least_le (suc n) q l o =
      test (eqb q n)
      (λ z. let e = eqb→eq q n z in let a = ap f e in
      cond_both (λ x. x ≤ f q) (eqb n but) (least_to n but d f) (min (f n) (least_to n but d f)) (λ y. absurd (o (e ∙ eqb→eq n but y))) (λ y. omega arith))
      (λ z. let e = neqb→ne q n z in let r = least_le n q (omega arith) o in
      cond_both (λ x. x ≤ f q) (eqb n but) (least_to n but d f) (min (f n) (least_to n but d f)) (λ y. r) (λ y. omega arith))

  pub le_least : (n x : ℕ) → x ≤ d → ((q : ℕ) → q < n → (q ≡ but → ⊥) → x ≤ f q) → x ≤ least_to n but d f
  unfolding least_to
  le_least zero x b h = b
  le_least (suc n) x b h =
      let r = le_least n x b (λ q l. h q (omega arith)) in
      cond_both (λ y. x ≤ y) (eqb n but) (least_to n but d f) (min (f n) (least_to n but d f))
      (λ y. r)
      (λ y. let a = h n (omega arith) (neqb→ne n but y) in omega arith)

  -- it is that of one of them, or d
  pub least_of : (n : ℕ) → (least_to n but d f ≡ d) ⊎ ((q : ℕ) × (q < n) × (q ≡ but → ⊥) × (f q ≡ least_to n but d f))
  unfolding least_to
  least_of zero = inl refl
  least_of (suc n) =
      let r = least_of n in
      let keeps : (x : ℕ) → x ≡ least_to n but d f → (x ≡ d) ⊎ ((q : ℕ) × (q < suc n) × (q ≡ but → ⊥) × (f q ≡ x)) =
      λ x e. ⊎_elim (λ z. inl (e ∙ z)) (λ z. inr (z.0, (let l = z.1 in omega arith), z.2, z.3 ∙ sym e)) r in
      cond_both (λ x. (x ≡ d) ⊎ ((q : ℕ) × (q < suc n) × (q ≡ but → ⊥) × (f q ≡ x))) (eqb n but) (least_to n but d f) (min (f n) (least_to n but d f))
      (λ y. keeps (least_to n but d f) refl)
      (λ y. ⊎_elim
      (λ l. inr (n, (omega arith), neqb→ne n but y, (omega arith)))
      (λ l. keeps (min (f n) (least_to n but d f)) (omega arith))
      (leb-total (f n) (least_to n but d f)))

pub least_mono : (n but d : ℕ) (f g : ℕ → ℕ) → ((q : ℕ) → q < n → (q ≡ but → ⊥) → f q ≤ g q) → least_to n but d f ≤ least_to n but d g
least_mono n but d f g h =
    le_least but d g n (least_to n but d f) (least_most but d f n) (λ q l o. let a = least_le but d f n q l o in let b = h q l o in omega arith)

pub least_cong : (n but d : ℕ) (f g : ℕ → ℕ) → ((q : ℕ) → q < n → f q ≡ g q) → least_to n but d f ≡ least_to n but d g
unfolding least_to
least_cong zero but d f g h = refl
least_cong (suc n) but d f g h = rw (h n (omega arith), least_cong n but d f g (λ q l. h q (omega arith)))
