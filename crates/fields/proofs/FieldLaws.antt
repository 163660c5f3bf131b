-- What is stored is loaded back, and nothing else changes. The statements, then their proofs. Assumes nothing.
use Prim.Native.Nat.{ℕ, ◌+◌, ◌%◌, ◌^◌, ◌≤◌, ◌<◌}
use mathlib.Core.Path.{◌≡◌, refl, ap, ap₂, ◌∙◌}
use mathlib.Core.Logic.{◌⊎◌, ⊎_elim}
use mathlib.Core.Bool.{cond}
use mathlib.Core.List.{List}
use native.Mathlib.Omega.{arith}
use lib.Dec.{T}
use lib.Ieee.Bits.{is_true}
use lib.ListN.{length, take, drop, length-drop}
use Rattle.laws.specs.Big.{Bytes, of_be, to_be}
use Rattle.laws.proofs.Tests.{cond_both}
use Rattle.laws.proofs.BigLaws.{pow_pos, length-to_be, of_to, bytes_drop, first_fits, only_first}
use Rattle.laws.proofs.LaidLaws.{laid, laid_same, length_laid, laid_there, laid_before, laid_after}
use Rattle.fields.specs.Field.{lies, field_at, with_field}
use Rattle.fields.proofs.Lying.{inside}

-- what is stored is loaded back, modulo the width
abbrev pub StoredIsLoaded : Type 0
StoredIsLoaded = (s : List ℕ) (at width n : ℕ) → T (lies (length s) at width) → field_at (with_field s at width n) at width ≡ n % 256 ^ width

-- storing leaves the length
abbrev pub LengthStays : Type 0
LengthStays = (s : List ℕ) (at width n : ℕ) → length (with_field s at width n) ≡ length s

-- a field that ends before the stored one begins, or begins after its end, stays
abbrev pub OthersStay : Type 0
OthersStay = (s : List ℕ) (at width n a w : ℕ) → (a + w ≤ at) ⊎ (at + width ≤ a) → field_at (with_field s at width n) a w ≡ field_at s a w

-- storing what was loaded changes nothing
abbrev pub LoadedIsStored : Type 0
LoadedIsStored = (s : List ℕ) (at width : ℕ) → Bytes s → with_field s at width (field_at s at width) ≡ s

-- what is loaded fits the width
abbrev pub LoadedFits : Type 0
LoadedFits = (s : List ℕ) (at width : ℕ) → Bytes s → field_at s at width < 256 ^ width

-- ---- proofs

pub loaded : (s : List ℕ) (n at width : ℕ) → length s ≡ n → T (lies n at width) → field_at s at width ≡ of_be (take width (drop at s))
unfolding field_at
loaded s n at width e t = rw (e, is_true (lies n at width) t)

module _ (s : List ℕ) (at width n : ℕ) where
  abbrev new : List ℕ
  new = laid s at width (to_be width n)

  pub stored : T (lies (length s) at width) → with_field s at width n ≡ new
  unfolding with_field
  stored t = rw (is_true (lies (length s) at width) t)

  -- what holds of the bytes laid there, and of s, holds of what storing leaves
  either : (P : List ℕ → Type 0) → (T (lies (length s) at width) → P new) → P s → P (with_field s at width n)
  unfolding with_field
  either P f x = cond_both P (lies (length s) at width) new s f (λ no. x)

pub length-stays : LengthStays
length-stays s at width n =
    either s at width n (λ l. length l ≡ length s) (λ t. length_laid s at width (to_be width n) (length-to_be width n) (inside (length s) at width t).1) refl

pub stored_is_loaded : StoredIsLoaded
stored_is_loaded s at width n t =
    loaded (with_field s at width n) (length s) at width (length-stays s at width n) t
    ∙ ap (λ (l : List ℕ). of_be (take width (drop at l))) (stored s at width n t)
    ∙ ap of_be (laid_there s at width (to_be width n) (length-to_be width n) (inside (length s) at width t).1)
    ∙ of_to width n

pub others_stay : OthersStay
unfolding field_at
others_stay s at width n a w apart =
    ap₂ (λ (k : ℕ) (l : List ℕ). cond (lies k a w) (of_be l) 0)
    (length-stays s at width n)
    (either s at width n (λ l. take w (drop a l) ≡ take w (drop a s))
    (λ t.
    let e = length-to_be width n in
    let h = (inside (length s) at width t).1 in
    ⊎_elim (laid_before s at width (to_be width n) e h a w) (λ l. ap (take w) (laid_after s at width (to_be width n) e h a l)) apart)
    refl)

room : (s : List ℕ) (at width : ℕ) → T (lies (length s) at width) → width ≤ length (drop at s)
room s at width t = let h = inside (length s) at width t in simp length-drop (omega arith)

back : (s : List ℕ) (at width : ℕ) → Bytes s → T (lies (length s) at width) → laid s at width (to_be width (field_at s at width)) ≡ s
back s at width b t =
    ap (λ (n : ℕ). laid s at width (to_be width n)) (loaded s (length s) at width refl t)
    ∙ ap (laid s at width) (only_first width (drop at s) (bytes_drop at s b) (room s at width t))
    ∙ laid_same s at width

pub loaded_is_stored : LoadedIsStored
loaded_is_stored s at width b = either s at width (field_at s at width) (λ l. l ≡ s) (back s at width b) refl

pub loaded_fits : LoadedFits
unfolding field_at
loaded_fits s at width b =
    cond_both (λ n. n < 256 ^ width) (lies (length s) at width) (of_be (take width (drop at s))) 0
    (λ t. first_fits width (drop at s) (bytes_drop at s b) (room s at width t))
    (λ no. pow_pos width)
