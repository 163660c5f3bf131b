-- Lists to look through: runs of numbers and all pairs.
use Rattle.std.specs.Prelude.{List, [], ◌∷◌, ◌++◌, map, ℕ, zero, suc}

-- n numbers from k on
unfoldable pub from : ℕ → ℕ → List ℕ
from k zero = []
from k (suc n) = k ∷ from (suc k) n

-- f of each of xs with each of ys
unfoldable pub pairs : {A : Type 0} → (ℕ → ℕ → A) → List ℕ → List ℕ → List A
pairs f [] ys = []
pairs f (x ∷ xs) ys = map (f x) ys ++ pairs f xs ys
