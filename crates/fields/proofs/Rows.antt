-- Fields one after the other: loading each gives the numbers of the row, and storing each lays the bytes of the row. Assumes nothing.
use Prim.Native.Nat.{ℕ, ◌+◌, ◌≤◌}
use mathlib.Core.Path.{◌≡◌, refl, ap, ap₂, ◌∙◌, sym}
use mathlib.Core.Bool.{Bool, true, ◌&&◌}
use mathlib.Core.List.{List, [], ◌∷◌, ◌++◌, append_assoc}
use native.Mathlib.Omega.{arith}
use lib.Dec.{T, leb, le→leb}
use lib.Ieee.Fits.{and_i}
use lib.ListN.{length, take, drop, take-append-drop}
use lib.Seq.{drop-drop}
use Rattle.laws.specs.Big.{to_be, total, fields_in, field_bytes}
use Rattle.laws.proofs.Tests.{and_l, and_r}
use Rattle.laws.proofs.BigLaws.{length-to_be}
use Rattle.laws.proofs.LaidLaws.{laid_upto, laid_after}
use Rattle.fields.specs.Field.{lies, field_at, with_field}
use Rattle.fields.proofs.FieldLaws.{loaded, stored, length-stays}

-- no width is above 8
abbrev pub narrow : List ℕ → Bool
narrow [] = true
narrow (w ∷ ws) = leb w 8 && narrow ws

-- each loaded, from at on
abbrev pub loads : List ℕ → ℕ → List ℕ → List ℕ
loads s at [] = []
loads s at (w ∷ ws) = field_at s at w ∷ loads s (at + w) ws

-- each stored, from at on
abbrev pub stores : List ℕ → ℕ → List ℕ → List ℕ → List ℕ
stores s at [] vs = s
stores s at (w ∷ ws) [] = s
stores s at (w ∷ ws) (v ∷ vs) = stores (with_field s at w v) (at + w) ws vs

first-lies : (n at w : ℕ) (ws : List ℕ) → T (narrow (w ∷ ws)) → at + total (w ∷ ws) ≤ n → T (lies n at w)
first-lies n at w ws t h = and_i (leb w 8) (leb (at + w) n) (and_l (leb w 8) (narrow ws) t) (le→leb (at + w) n (omega arith))

pub loads_row : (s : List ℕ) (at : ℕ) (ws : List ℕ) → T (narrow ws) → at + total ws ≤ length s → loads s at ws ≡ fields_in ws (drop at s)
loads_row s at [] t h = refl
loads_row s at (w ∷ ws) t h =
    ap₂ ◌∷◌
    (loaded s (length s) at w refl (first-lies (length s) at w ws t h))
    (loads_row s (at + w) ws (and_r (leb w 8) (narrow ws) t) (omega arith) ∙ ap (fields_in ws) (sym (drop-drop w at s)))

pub stores_row : (s : List ℕ) (at : ℕ) (ws vs : List ℕ) → T (narrow ws) → length vs ≡ length ws → at + total ws ≤ length s
    → stores s at ws vs ≡ take at s ++ (field_bytes ws vs ++ drop (at + total ws) s)
stores_row s at [] vs t e h = let z : at + 0 ≡ at = omega arith in rw z (sym (take-append-drop at s))
stores_row s at (w ∷ ws) [] t e h = absurd (omega arith)
stores_row s at (w ∷ ws) (v ∷ vs) t e h =
    let k = length-stays s at w v in
    let new = stored s at w v (first-lies (length s) at w ws t h) in
    let b : List ℕ = to_be w v in
    let rest : List ℕ = field_bytes ws vs in
    let end : ℕ = at + w + total ws in
    let z : end ≡ at + (w + total ws) = omega arith in
    stores_row (with_field s at w v) (at + w) ws vs (and_r (leb w 8) (narrow ws) t) (omega arith) (omega arith)
    ∙ ap (λ (l : List ℕ). take (at + w) l ++ (rest ++ drop end l)) new
    ∙ ap₂ (λ (x y : List ℕ). x ++ (rest ++ y)) (laid_upto s at w b (length-to_be w v) (omega arith)) (laid_after s at w b (length-to_be w v) (omega arith) end (omega arith))
    ∙ append_assoc (take at s) b (rest ++ drop end s)
    ∙ ap (λ (x : List ℕ). take at s ++ x) (sym (append_assoc b rest (drop end s)))
    ∙ ap (λ (n : ℕ). take at s ++ ((b ++ rest) ++ drop n s)) z
