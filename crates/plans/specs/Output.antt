-- The whole output for a whole input, over any plan. Lines, commands and texts are the bench's.
use Rattle.std.specs.Prelude.{false, cond, ◌&&◌, List, [], ◌∷◌, ◌++◌, ℕ, ◌+◌, leb, ltb, Option, Some, None}
use Rattle.laws.specs.Below.{count_to}
use Rattle.bench.specs.{declared.lines.Header.{Header}, Text.{answer_line, bad_header, last_line}}
use Rattle.bench.specs.{Lines.{header_of, command_of}, Output.{lines_from}}
use Rattle.plans.specs.{Plan.{Plan}, Night.{Night, begun, ran}}

module _ {S : Type 0} (plan : Plan S) where
  -- how many of the posts below N are in phases lo to hi
  unfoldable pub in_phases : ℕ → ℕ → ℕ → Night S → ℕ
  in_phases lo hi posts s = count_to posts (λ p. let n = plan.phase (s.posts p) in leb lo n && leb n hi)

  -- places, posts in phase 3, posts in phases 1 and 2
  unfoldable pub closing : ℕ → ℕ → Night S → List ℕ
  closing posts places s = last_line places (in_phases 3 3 posts s) (in_phases 1 2 posts s)

  -- the answers to lines of commands, after i of them, and the last line; at line 257 it stops
  unfoldable pub answers_to : ℕ → ℕ → Night S → ℕ → List (List ℕ) → List ℕ
  answers_to posts places s i [] = closing posts places s
  answers_to posts places s i (l ∷ ls) =
      let c = command_of posts l in
      let r = ran plan s c in
      cond (ltb i 256)
      (answer_line (i + 1) c r.number r.granted ++ answers_to posts places r.night (i + 1) ls)
      (answer_line 257 None 17 false ++ closing posts places s)

  abbrev pub night_of : Option Header → List (List ℕ) → List ℕ
  night_of (Some h) ls = answers_to h.posts h.places (begun plan h.posts h.places) 0 ls
  night_of None ls = bad_header

  unfoldable pub night_from : List (List ℕ) → List ℕ
  night_from [] = bad_header
  night_from (l ∷ ls) = night_of (header_of l) ls

  unfoldable pub output_over : List ℕ → List ℕ
  output_over input = night_from (lines_from [] input)
