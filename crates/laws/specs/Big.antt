-- Numbers as bytes, high byte first, and rows of such fields, each over any width.
use Rattle.std.specs.Prelude.{ℕ, zero, suc, ◌+◌, ◌*◌, ◌/◌, ◌%◌, ◌^◌, ◌<◌, List, [], ◌∷◌, ◌++◌, length, take, drop}

-- each number of a list is a byte
abbrev pub Bytes : List ℕ → Type 0
Bytes [] = Unit
Bytes (b ∷ bs) = (b < 256) × Bytes bs

-- the number that bytes stand for
abbrev pub of_be : List ℕ → ℕ
of_be [] = 0
of_be (b ∷ bs) = b * 256 ^ length bs + of_be bs

-- the w bytes of a number; of a larger one, its lowest w
abbrev pub to_be : ℕ → ℕ → List ℕ
to_be zero v = []
to_be (suc w) v = v / 256 ^ w % 256 ∷ to_be w v

-- how many bytes fields of the widths ws take
abbrev pub total : List ℕ → ℕ
total [] = 0
total (w ∷ ws) = w + total ws

-- the numbers of the fields that stand in s one after the other
abbrev pub fields_in : List ℕ → List ℕ → List ℕ
fields_in [] s = []
fields_in (w ∷ ws) s = of_be (take w s) ∷ fields_in ws (drop w s)

-- the bytes of fields with the widths ws and the numbers vs
abbrev pub field_bytes : List ℕ → List ℕ → List ℕ
field_bytes [] vs = []
field_bytes (w ∷ ws) [] = []
field_bytes (w ∷ ws) (v ∷ vs) = to_be w v ++ field_bytes ws vs

-- there is a number for each width, and it fits
abbrev pub Fit : List ℕ → List ℕ → Type 0
Fit [] [] = Unit
Fit [] (v ∷ vs) = ⊥
Fit (w ∷ ws) [] = ⊥
Fit (w ∷ ws) (v ∷ vs) = (v < 256 ^ w) × Fit ws vs
