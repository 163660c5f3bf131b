-- A number in bytes, high byte first: the field of `width` bytes from `at` on.
use Rattle.std.specs.Prelude.{Bool, ◌&&◌, cond, List, ◌++◌, ℕ, ◌+◌, leb, length, take, drop}
use Rattle.laws.specs.Big.{of_be, to_be}

-- the field lies in n bytes, and is at most 8 wide
abbrev pub lies : ℕ → ℕ → ℕ → Bool
lies n at width = leb width 8 && leb (at + width) n

-- the number in it; 0 where it does not lie in s
unfoldable pub field_at : List ℕ → ℕ → ℕ → ℕ
field_at s at width = cond (lies (length s) at width) (of_be (take width (drop at s))) 0

-- s with the lowest bytes of n in it; s where it does not lie in s
unfoldable pub with_field : List ℕ → ℕ → ℕ → ℕ → List ℕ
with_field s at width n = cond (lies (length s) at width) (take at s ++ (to_be width n ++ drop (at + width) s)) s
