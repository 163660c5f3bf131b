-- Numbers as decimal text.
use Rattle.std.specs.Prelude.{cond, List, [], ◌∷◌, ◌++◌, ℕ, zero, suc, ◌+◌, ◌-◌, ◌*◌, ◌/◌, ◌%◌, ltb}

-- a number below 10 ^ k, decimal without leading zeros; of a larger one, its lowest k digits
unfoldable pub digits : ℕ → ℕ → List ℕ
digits zero n = []
digits (suc k) n = cond (ltb n 10) ((48 + n) ∷ []) (digits k (n / 10) ++ ((48 + n % 10) ∷ []))

-- a number of 64 bits: it is below 10 ^ 20
abbrev pub decimal : ℕ → List ℕ
decimal n = digits 20 n

-- the number that digits stand for, after those that stand for v
abbrev pub value_on : ℕ → List ℕ → ℕ
value_on v [] = v
value_on v (b ∷ bs) = value_on (v * 10 + (b - 48)) bs
