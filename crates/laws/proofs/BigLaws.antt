-- A number below 256 ^ w reads back from its w bytes, and those are the only w bytes that read as it; the same of a row of fields.
-- Once over the widths. Assumes nothing.
use Prim.Native.Nat.{ℕ, zero, suc, ◌+◌, ◌*◌, ◌/◌, ◌%◌, ◌^◌, ◌≤◌, ◌<◌}
use mathlib.Core.Path.{◌≡◌, refl, ap, ap₂, ◌∙◌, sym, subst}
use mathlib.Core.List.{List, [], ◌∷◌, ◌++◌}
use native.Mathlib.Omega.{arith}
use native.Mathlib.Numerals.{add-one}
use native.Mathlib.Nat.{pow-suc, mul_comm, mul_assoc, mod-one, mod-lt, mod-eq_of_lt, add-mul}
use lib.Arith.{mod-mul, digits_div, digits_mod, digits_lt}
use lib.Dec.{lit<}
use lib.ListN.{length, get_or, take, drop, take-append-drop, length-append, length-drop}
use lib.Seq.{take_at, drop_at, length-take-le, take-suc, get_or-drop}
use Rattle.laws.specs.Big.{Bytes, of_be, to_be, total, fields_in, field_bytes, Fit}

pub pow_pos : (w : ℕ) → 0 < 256 ^ w
pow_pos zero = lit< tt
pow_pos (suc w) = let h = pow_pos w in rw pow-suc (omega arith)

pub length-to_be : (w v : ℕ) → length (to_be w v) ≡ w
length-to_be zero v = refl
length-to_be (suc w) v = ap suc (length-to_be w v)

pub of_to : (w v : ℕ) → of_be (to_be w v) ≡ v % 256 ^ w
of_to zero v = sym (mod-one v)
of_to (suc w) v =
    ap₂ (λ (n x : ℕ). v / 256 ^ w % 256 * 256 ^ n + x) (length-to_be w v) (of_to w v)
    ∙ sym (mod-mul v {m = 256} {c = 256 ^ w} (lit< tt) (pow_pos w))
    ∙ ap (λ (x : ℕ). v % x) (mul_comm 256 (256 ^ w) ∙ sym (pow-suc 256 w))

pub reads_as : (w v : ℕ) → v < 256 ^ w → of_be (to_be w v) ≡ v
reads_as w v h = of_to w v ∙ mod-eq_of_lt h

below : (bs : List ℕ) → Bytes bs → of_be bs < 256 ^ length bs
below [] h = lit< tt
below (b ∷ bs) h =
    let d : b * 256 ^ length bs + of_be bs < 256 * 256 ^ length bs = digits_lt h.0 (below bs h.1) in
    rw (pow-suc, mul_comm (256 ^ length bs) 256) d

-- whatever stands above them, the lowest bytes of the number are the bytes
to_of : (a : ℕ) (bs : List ℕ) → Bytes bs → to_be (length bs) (a * 256 ^ length bs + of_be bs) ≡ bs
to_of a [] h = refl
to_of a (b ∷ bs) h =
    let P : ℕ = 256 ^ length bs in
    let e : a * 256 ^ suc (length bs) + (b * P + of_be bs) ≡ (a * 256 + b) * P + of_be bs = above a b (length bs) (of_be bs) in
    ap (λ (x : ℕ). x / P % 256 ∷ to_be (length bs) x) e
    ∙ ap₂ ◌∷◌ (ap (λ (x : ℕ). x % 256) (digits_div (a * 256 + b) (below bs h.1)) ∙ digits_mod a h.0) (to_of (a * 256 + b) bs h.1)
  where
    above : (a b n o : ℕ) → a * 256 ^ suc n + (b * 256 ^ n + o) ≡ (a * 256 + b) * 256 ^ n + o
    above a b n o = rw (pow-suc, add-mul, mul_assoc, mul_comm 256 (256 ^ n)) (omega arith)

pub only_bytes : (bs : List ℕ) → Bytes bs → to_be (length bs) (of_be bs) ≡ bs
only_bytes bs h = ap (to_be (length bs)) (zero_above (256 ^ length bs) (of_be bs)) ∙ to_of 0 bs h
  where
    zero_above : (p o : ℕ) → o ≡ 0 * p + o
    zero_above p o = omega arith

-- one byte more, on the low side
of_snoc : (bs : List ℕ) (b : ℕ) → of_be (bs ++ (b ∷ [])) ≡ of_be bs * 256 + b
of_snoc [] b = omega arith
of_snoc (x ∷ bs) b =
    ap₂ (λ (n o : ℕ). x * 256 ^ n + o) (length-append bs (b ∷ []) ∙ add-one (length bs)) (of_snoc bs b)
    ∙ rw (pow-suc, add-mul, mul_assoc) (omega arith)

pub of_next : (s : List ℕ) (at i : ℕ) → at + i < length s → of_be (take (suc i) (drop at s)) ≡ of_be (take i (drop at s)) * 256 + get_or s (at + i) 0
of_next s at i h =
    ap of_be (take-suc (drop at s) i 0 (simp length-drop (omega arith)))
    ∙ of_snoc (take i (drop at s)) (get_or (drop at s) i 0)
    ∙ ap (λ (b : ℕ). of_be (take i (drop at s)) * 256 + b) (get_or-drop at s i 0)

-- ---- the first w bytes of a list

pub all_bytes : (s : List ℕ) → ((i : ℕ) → get_or s i 0 < 256) → Bytes s
all_bytes [] h = tt
all_bytes (b ∷ s) h = (h 0, all_bytes s (λ i. h (suc i)))

bytes_take : (n : ℕ) (s : List ℕ) → Bytes s → Bytes (take n s)
bytes_take zero s h = tt
bytes_take (suc n) [] h = tt
bytes_take (suc n) (b ∷ s) h = (h.0, bytes_take n s h.1)

-- what is laid out is bytes
bytes_to_be : (w v : ℕ) → Bytes (to_be w v)
bytes_to_be zero v = tt
bytes_to_be (suc w) v = (mod-lt (v / 256 ^ w) (omega arith), bytes_to_be w v)

pub bytes_append : (s t : List ℕ) → Bytes s → Bytes t → Bytes (s ++ t)
bytes_append [] t x y = y
bytes_append (b ∷ s) t x y = (x.0, bytes_append s t x.1 y)

pub bytes_fields : (ws vs : List ℕ) → Bytes (field_bytes ws vs)
bytes_fields [] vs = tt
bytes_fields (w ∷ ws) [] = tt
bytes_fields (w ∷ ws) (v ∷ vs) = bytes_append (to_be w v) (field_bytes ws vs) (bytes_to_be w v) (bytes_fields ws vs)

pub bytes_drop : (n : ℕ) (s : List ℕ) → Bytes s → Bytes (drop n s)
bytes_drop zero s h = h
bytes_drop (suc n) [] h = tt
bytes_drop (suc n) (b ∷ s) h = bytes_drop n s h.1

module _ (w : ℕ) (s : List ℕ) (h : Bytes s) (l : w ≤ length s) where
  pub first_fits : of_be (take w s) < 256 ^ w
  first_fits = subst (λ (n : ℕ). of_be (take w s) < 256 ^ n) (length-take-le w s l) (below (take w s) (bytes_take w s h))

  pub only_first : to_be w (of_be (take w s)) ≡ take w s
  only_first = ap (λ (n : ℕ). to_be n (of_be (take w s))) (sym (length-take-le w s l)) ∙ only_bytes (take w s) (bytes_take w s h)

-- ---- rows of fields

pub fields_back : (ws vs : List ℕ) → Fit ws vs → fields_in ws (field_bytes ws vs) ≡ vs
fields_back [] [] h = refl
fields_back [] (v ∷ vs) h = absurd h
fields_back (w ∷ ws) [] h = absurd h
fields_back (w ∷ ws) (v ∷ vs) h =
    let b = field_bytes ws vs in
    ap₂ ◌∷◌
    (ap of_be (take_at (to_be w v) b w (length-to_be w v)) ∙ reads_as w v h.0)
    (ap (fields_in ws) (drop_at (to_be w v) b w (length-to_be w v)) ∙ fields_back ws vs h.1)

pub only_fields : (ws s : List ℕ) → Bytes s → length s ≡ total ws → field_bytes ws (fields_in ws s) ≡ s
only_fields [] [] h e = refl
only_fields [] (b ∷ s) h e = absurd (omega arith)
only_fields (w ∷ ws) s h e =
    ap₂ ◌++◌
    (only_first w s h (omega arith))
    (only_fields ws (drop w s) (bytes_drop w s h) (simp length-drop (omega arith)))
    ∙ take-append-drop w s

-- each number fits its width
pub fields_fit : (ws s : List ℕ) → Bytes s → length s ≡ total ws → Fit ws (fields_in ws s)
fields_fit [] s h e = tt
fields_fit (w ∷ ws) s h e = (first_fits w s h (omega arith), fields_fit ws (drop w s) (bytes_drop w s h) (simp length-drop (omega arith)))
