-- A list over a part of another: it stands there, the places before and after it stay, and the length stays. Assumes nothing.
use mathlib.Core.Path.{◌≡◌, ap, ap₂, ◌∙◌, sym}
use mathlib.Core.List.{List, ◌++◌}
use Prim.Native.Nat.{ℕ, ◌+◌, ◌-◌, ◌≤◌}
use native.Mathlib.Omega.{arith}
use borrow.Rule.Slice.PartMut.{put_mid}
use lib.ListN.{length, take, drop, take-append-drop, length-append, length-drop}
use lib.Seq.{drop-drop, length-take-le}
use Rattle.std.proofs.lemmas.List.{drop-take}
use Rattle.std.proofs.lemmas.Slice.{between-put_mid, take-put_mid, take-put_mid_below, drop-put_mid}

module _ {A : Type 0} where
  -- m over the w elements of s from i on
  abbrev pub laid : List A → ℕ → ℕ → List A → List A
  laid s i w m = take i s ++ (m ++ drop (i + w) s)

  -- as the library writes it
  pub as_put : (s : List A) (i w : ℕ) (m : List A) → laid s i w m ≡ put_mid i w s m
  as_put s i w m = ap (λ (r : List A). take i s ++ (m ++ r)) (sym (drop-drop w i s))

  -- what stood there, laid over itself
  pub laid_same : (s : List A) (i w : ℕ) → laid s i w (take w (drop i s)) ≡ s
  laid_same s i w =
      as_put s i w (take w (drop i s))
      ∙ ap (λ (r : List A). take i s ++ r) (take-append-drop w (drop i s))
      ∙ take-append-drop i s

module _ {A : Type 0} (s : List A) (i w : ℕ) (m : List A) (e : length m ≡ w) (h : i + w ≤ length s) where
  within : i ≤ length s
  within = omega arith

  pub length_laid : length (laid s i w m) ≡ length s
  length_laid = let b = length-take-le i s within in simp (length-append, length-drop) (omega arith)

  pub laid_there : take w (drop i (laid s i w m)) ≡ m
  laid_there =
      let k : w ≡ i + w - i = omega arith in
      ap₂ (λ (n : ℕ) (l : List A). take n (drop i l)) k (as_put s i w m) ∙ between-put_mid i w s m (i + w) within (e ∙ k)

  pub laid_upto : take (i + w) (laid s i w m) ≡ take i s ++ m
  laid_upto = ap (take (i + w)) (as_put s i w m) ∙ take-put_mid i w s m (i + w) (omega arith) within

  pub laid_before : (j v : ℕ) → j + v ≤ i → take v (drop j (laid s i w m)) ≡ take v (drop j s)
  laid_before j v l =
      sym (drop-take j v (laid s i w m))
      ∙ ap (drop j) (ap (take (j + v)) (as_put s i w m) ∙ take-put_mid_below i w s m (j + v) l within)
      ∙ drop-take j v s

  pub laid_after : (j : ℕ) → i + w ≤ j → drop j (laid s i w m) ≡ drop j s
  laid_after j l = ap (drop j) (as_put s i w m) ∙ drop-put_mid i w s m j l within e
