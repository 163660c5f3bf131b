-- The whole output for a whole input, line by line.
use Rattle.std.specs.Prelude.{false, cond, List, [], ◌∷◌, ◌++◌, ℕ, ◌+◌, ◌<◌, ltb, eqb, Option, Some, None, length}
use Rattle.bench.specs.{declared.Night.{Night}, declared.lines.Header.{Header}, declared.lines.Command.{Command}, Text.{answer_line, bad_header}}
use Rattle.bench.specs.{Lines.{header_of, command_of}, Night.{begun, ran}, Bench.{closing}}

-- what stands between LFs, after a piece that is read; a last piece counts if it has a byte
unfoldable pub lines_from : List ℕ → List ℕ → List (List ℕ)
lines_from piece [] = cond (eqb (length piece) 0) [] (piece ∷ [])
lines_from piece (b ∷ bs) = cond (eqb b 10) (piece ∷ lines_from [] bs) (lines_from (piece ++ (b ∷ [])) bs)

-- the answers to lines of commands, after i of them, and the last line; at line 257 it stops
unfoldable pub answers_to : ℕ → ℕ → Night → ℕ → List (List ℕ) → List ℕ
answers_to posts places s i [] = closing places s
answers_to posts places s i (l ∷ ls) =
    let c = command_of posts l in
    let r = ran s c in
    cond (ltb i 256)
    (answer_line (i + 1) c r.number r.granted ++ answers_to posts places r.night (i + 1) ls)
    (answer_line 257 None 17 false ++ closing places s)

abbrev pub night_of : Option Header → List (List ℕ) → List ℕ
night_of (Some h) ls = answers_to h.posts h.places (begun h.posts h.places) 0 ls
night_of None ls = bad_header

unfoldable pub night_from : List (List ℕ) → List ℕ
night_from [] = bad_header
night_from (l ∷ ls) = night_of (header_of l) ls

unfoldable pub output : List ℕ → List ℕ
output input = night_from (lines_from [] input)

-- the night after lines, by what they ask for
unfoldable pub after_all : Night → List (Option Command) → Night
after_all s [] = s
after_all s (c ∷ cs) = after_all (ran s c).night cs

-- at each of 256 commands there is a place for what it may write, so no written message is dropped
abbrev pub NoneDropped : Type 0
NoneDropped = (posts places : ℕ) (cs : List (Option Command)) → length cs < 256 → (after_all (begun posts places) cs).count < 256
