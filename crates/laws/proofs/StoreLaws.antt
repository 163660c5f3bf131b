-- Runs of stores: two that follow each other are one, and what stands in a list after one; a place within a list. Assumes nothing.
use mathlib.Core.Path.{◌≡◌, refl, ap, ◌∙◌}
use mathlib.Core.List.{List, [], ◌∷◌, ◌++◌}
use Prim.Native.Nat.{ℕ, zero, suc, ◌+◌, ◌≤◌, ◌<◌}
use native.Mathlib.Omega.{arith}
use lib.ListN.{length, get_or, take, drop, set, length-append}
use lib.Seq.{sets, sets-eq, take_at, length-take-le}

module _ {A : Type 0} where
  pub sets_append : (l : List A) (i : ℕ) (s t : List A) → sets (sets l i s) (i + length s) t ≡ sets l i (s ++ t)
  sets_append l i [] t = ap (λ (k : ℕ). sets l k t) (let e : i + 0 ≡ i = omega arith in e)
  sets_append l i (a ∷ s) t =
      let e : i + suc (length s) ≡ suc i + length s = omega arith in
      ap (λ (k : ℕ). sets (sets l i (a ∷ s)) k t) e ∙ sets_append (set l i a) (suc i) s t

  -- the first places up to the end of a run
  pub take_sets : (l : List A) (i : ℕ) (s : List A) → i + length s ≤ length l → take (i + length s) (sets l i s) ≡ take i l ++ s
  take_sets l i s h =
      let k = length-take-le i l (omega arith) in
      let e = length-append (take i l) s in
      ap (take (i + length s)) (sets-eq s l i h) ∙ take_at (take i l ++ s) (drop (i + length s) l) (i + length s) (omega arith)

-- a place within a list has what it has, whatever stands for what is not there
pub within : {A : Type 0} (l : List A) (i : ℕ) (d e : A) → i < length l → get_or l i d ≡ get_or l i e
within [] i d e h = absurd (omega arith)
within (x ∷ xs) zero d e h = refl
within (x ∷ xs) (suc i) d e h = within xs i d e (omega arith)
