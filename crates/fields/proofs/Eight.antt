-- A field as the last of the 8 bytes that a number has: what the steps of `load` and `store` say, put together. Assumes nothing.
use denote.Floats.{passes}
use mathlib.Core.Path.{◌≡◌, refl, ap, ap₂, sym, ◌∙◌}
use mathlib.Core.Bool.{true}
use mathlib.Core.List.{List, [], ◌∷◌, ◌++◌, append-nil}
use Prim.Native.Nat.{ℕ, zero, suc, ◌+◌, ◌-◌, ◌≤◌}
use native.Mathlib.Omega.{arith}
use native.Mathlib.Nat.{div-one}
use mir.Syntax.{w64}
use borrow.Rule.Slice.PartMut.{put_mid}
use lib.ListN.{length, take, drop, replicate, length-append, length-drop, drop_of_length-le}
use lib.Seq.{take_all, length-take-le}
use Rattle.std.specs.Int.{from_be_bytes, to_be_bytes}
use Rattle.laws.specs.Big.{of_be, to_be}
use Rattle.laws.proofs.BigLaws.{length-to_be}
use Rattle.laws.proofs.LaidLaws.{as_put}
use Rattle.laws.proofs.Ladders.{on}
use Rattle.fields.specs.Field.{lies, field_at, with_field}
use Rattle.fields.proofs.Lying.{inside}

of_eight : (bs : List ℕ) → length bs ≡ 8 → from_be_bytes w64 bs ≡ of_be bs
of_eight (a ∷ (b ∷ (c ∷ (d ∷ (e ∷ (f ∷ (g ∷ (h ∷ [])))))))) l = omega arith
of_eight _ l = absurd (omega arith)

to_eight : (n : ℕ) → to_be_bytes w64 n ≡ to_be 8 n
to_eight n = let e = div-one n in cc

-- zeros above them do not change what bytes stand for
zeros_above : (k n : ℕ) (bs : List ℕ) → of_be (take k (replicate n 0) ++ bs) ≡ of_be bs
zeros_above zero n bs = refl
zeros_above (suc k) zero bs = refl
zeros_above (suc k) (suc n) bs = let h = zeros_above k n bs in omega arith

-- the last w of a number's bytes are its lowest
lowest : (m j w n : ℕ) → j + w ≡ m → drop j (to_be m n) ≡ to_be w n
lowest m zero w n e = ap (λ (k : ℕ). to_be k n) (let k : m ≡ w = omega arith in k)
lowest zero (suc j) w n e = absurd (omega arith)
lowest (suc m) (suc j) w n e = lowest m j w n (omega arith)

module _ (s bs : List ℕ) (at w : ℕ) where
  same_width : at + w - at ≡ w
  same_width = omega arith

  last_of_zeros : w ≤ 8 → length bs ≡ w → from_be_bytes w64 (put_mid (8 - w) (8 - (8 - w)) (replicate 8 0) bs) ≡ of_be bs
  last_of_zeros h l =
      let z : List ℕ = replicate 8 0 in
      let k = length-drop (8 - w) z in
      let t = length-take-le (8 - w) z (omega arith) in
      let e : drop (8 - (8 - w)) (drop (8 - w) z) ≡ [] = drop_of_length-le (drop (8 - w) z) (omega arith) in
      ap (λ (r : List ℕ). from_be_bytes w64 (take (8 - w) z ++ (bs ++ r))) e
      ∙ of_eight (take (8 - w) z ++ (bs ++ [])) (simp length-append (omega arith))
      ∙ zeros_above (8 - w) 8 (bs ++ [])
      ∙ ap of_be (append-nil bs)

  pub loads : (n : ℕ) → lies (length s) at w ≡ true → bs ≡ take (at + w - at) (drop at s) → n ≡ from_be_bytes w64 (put_mid (8 - w) (8 - (8 - w)) (replicate 8 0) bs)
      → n ≡ field_at s at w
  unfolding field_at
  loads n t e f =
      let h = inside (length s) at w (passes _ t) in
      let d = length-drop at s in
      let g = e ∙ ap (λ (k : ℕ). take k (drop at s)) same_width in
      on _ _ _ t (f ∙ last_of_zeros h.0 (ap length g ∙ length-take-le w (drop at s) (omega arith)) ∙ ap of_be g)

  pub stores : (all : List ℕ) (n : ℕ) → lies (length s) at w ≡ true → all ≡ to_be_bytes w64 n → bs ≡ take (8 - (8 - w)) (drop (8 - w) all)
      → put_mid at (at + w - at) s bs ≡ with_field s at w n
  unfolding with_field
  stores all n t a e =
      let h = (inside (length s) at w (passes _ t)).0 in
      let l = length-to_be w n in
      let g = e ∙ ap (λ (b : List ℕ). take (8 - (8 - w)) (drop (8 - w) b)) (a ∙ to_eight n) ∙ ap (take (8 - (8 - w))) (lowest 8 (8 - w) w n (omega arith)) in
      on _ _ _ t
      (ap₂ (λ (k : ℕ) (m : List ℕ). put_mid at k s m) same_width (g ∙ take_all (8 - (8 - w)) (to_be w n) (omega arith)) ∙ sym (as_put s at w (to_be w n)))
