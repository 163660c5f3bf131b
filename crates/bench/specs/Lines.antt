-- Lines: the one being read, and which header or command a line is.
use Rattle.std.specs.Prelude.{Bool, not, cond, ◌&&◌, List, ◌∷◌, ◌++◌, map, ℕ, ◌+◌, ltb, eqb, Option, find, take, replicate, set}
use Rattle.std.specs.Str.{bytes_eq}
use Rattle.laws.specs.Lists.{keep}
use Rattle.laws.specs.Search.{from, pairs}
use Rattle.bench.specs.{declared.Line.{Line}, declared.lines.Header.{Header}, declared.lines.Command.{Command}}
use Rattle.bench.specs.{declared.lines.Command.TheVariants.{Take, Return, Deliver}, Text.{decimal, text}}

-- ---- the line being read: its first 8 bytes

unfoldable pub empty : Line
empty = record { bytes = replicate 8 0; len = 0 }

unfoldable pub pushed : Line → ℕ → Line
pushed l b = cond (ltb l.len 8) (record { bytes = set l.bytes l.len b; len = l.len + 1 }) l

abbrev pub kept : Line → List ℕ
kept l = take l.len l.bytes

-- ---- commands

-- a post below N, and below 16
unfoldable pub inside : ℕ → ℕ → Bool
inside n p = ltb p n && ltb p 16

-- in range for N posts
unfoldable pub in_range_for : ℕ → Command → Bool
in_range_for n (Take p) = inside n p
in_range_for n (Return p) = inside n p
in_range_for n (Deliver p q) = inside n p && (inside n q && not (eqb p q))

unfoldable pub every_command : List Command
every_command = map Take (from 0 16) ++ (map Return (from 0 16) ++ pairs Deliver (from 0 16) (from 0 16))

-- the command in range for N posts whose text the line is
unfoldable pub command_of : ℕ → List ℕ → Option Command
command_of n line = find (λ c. bytes_eq (text c) line) (keep (in_range_for n) every_command)

-- ---- headers

abbrev pub heading : ℕ → ℕ → Header
heading posts places = record { posts = posts; places = places }

-- `N K`
unfoldable pub header_text : Header → List ℕ
header_text h = decimal h.posts ++ (32 ∷ decimal h.places)

-- the header with N and K from 1 to 16 whose text the line is
unfoldable pub header_of : List ℕ → Option Header
header_of line = find (λ h. bytes_eq (header_text h) line) (pairs heading (from 1 16) (from 1 16))
