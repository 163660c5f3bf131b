-- The texts that the bench reads and writes, as bytes.
use Rattle.std.specs.Prelude.{Bool, cond, List, [], ◌∷◌, ◌++◌, ℕ, Option, Some, None}
use Rattle.text.specs.Decimal.{digits}
use Rattle.bench.specs.{declared.lines.Command.{Command}, declared.lines.Command.TheVariants.{Take, Return, Deliver}}

-- a number below 1000, decimal without leading zeros
abbrev pub decimal : ℕ → List ℕ
decimal n = digits 3 n

-- `T p`, `R p`, `D p q`
unfoldable pub text : Command → List ℕ
text (Take p) = 84 ∷ 32 ∷ decimal p
text (Return p) = 82 ∷ 32 ∷ decimal p
text (Deliver p q) = 68 ∷ 32 ∷ decimal p ++ (32 ∷ decimal q)

-- and `?` for what is no command
unfoldable pub shown : Option Command → List ℕ
shown (Some c) = text c
shown None = 63 ∷ []

-- line number, command, refusal number, `G` for a grant or `-`, one space between, and LF
unfoldable pub answer_line : ℕ → Option Command → ℕ → Bool → List ℕ
answer_line n c number granted = decimal n ++ (32 ∷ shown c ++ (32 ∷ decimal number ++ (32 ∷ cond granted 71 45 ∷ 10 ∷ [])))

-- `bad header` and LF
abbrev pub bad_header : List ℕ
bad_header = 98 ∷ 97 ∷ 100 ∷ 32 ∷ 104 ∷ 101 ∷ 97 ∷ 100 ∷ 101 ∷ 114 ∷ 10 ∷ []

-- `places K held H waiting W` and LF
unfoldable pub last_line : ℕ → ℕ → ℕ → List ℕ
last_line places held waiting =
    112 ∷ 108 ∷ 97 ∷ 99 ∷ 101 ∷ 115 ∷ 32 ∷ decimal places
    ++ (32 ∷ 104 ∷ 101 ∷ 108 ∷ 100 ∷ 32 ∷ decimal held
    ++ (32 ∷ 119 ∷ 97 ∷ 105 ∷ 116 ∷ 105 ∷ 110 ∷ 103 ∷ 32 ∷ decimal waiting
    ++ (10 ∷ [])))
