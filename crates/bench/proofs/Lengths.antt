-- How long texts are: a number below 1000 has at most 3 digits. Assumes nothing.
use mathlib.Core.Bool.{Bool, cond}
use mathlib.Core.List.{List, [], ◌∷◌, ◌++◌}
use Prim.Native.Nat.{ℕ, ◌≤◌}
use Rattle.std.specs.Prelude.{Option, Some, None}
use native.Mathlib.Omega.{arith}
use lib.ListN.{length, length-append}
use Rattle.text.proofs.Digits.{digits-few}
use Rattle.bench.specs.declared.lines.Command.{Command}
use Rattle.bench.specs.declared.lines.Command.TheVariants.{Take, Return, Deliver}
use Rattle.bench.specs.declared.Night.{Night}
use Rattle.bench.specs.Text.{decimal, text, shown, answer_line, last_line}
use Rattle.bench.specs.Bench.{in_phases, closing}

pub text-few : (c : Command) → length (text c) ≤ 9
unfolding text
text-few (Take p) = let h = digits-few 3 p in omega arith
text-few (Return p) = let h = digits-few 3 p in omega arith
text-few (Deliver p q) = let h = digits-few 3 p in let k = digits-few 3 q in let l = length-append (decimal p) (32 ∷ decimal q) in omega arith

-- two numbers with a space between them
pub pair_few : (p q : ℕ) → length (decimal p ++ (32 ∷ decimal q)) ≤ 7
pair_few p q = let h = digits-few 3 p in let k = digits-few 3 q in let l = length-append (decimal p) (32 ∷ decimal q) in omega arith

shown_few : (c : Option Command) → length (shown c) ≤ 9
unfolding shown
shown_few (Some c) = text-few c
shown_few None = omega arith

pub answer-few : (n : ℕ) (c : Option Command) (number : ℕ) (granted : Bool) → length (answer_line n c number granted) ≤ 20
unfolding answer_line
answer-few n c number granted =
    let end : List ℕ = 32 ∷ cond granted 71 45 ∷ 10 ∷ [] in
    let rest : List ℕ = 32 ∷ decimal number ++ end in
    let h = digits-few 3 n in
    let k = shown_few c in
    let m = digits-few 3 number in
    let l = length-append (decimal n) (32 ∷ shown c ++ rest) in
    let i = length-append (shown c) rest in
    let j = length-append (decimal number) end in
    omega arith

last-few : (places held waiting : ℕ) → length (last_line places held waiting) ≤ 32
unfolding last_line
last-few places held waiting =
    let third : List ℕ = 32 ∷ 119 ∷ 97 ∷ 105 ∷ 116 ∷ 105 ∷ 110 ∷ 103 ∷ 32 ∷ decimal waiting ++ (10 ∷ []) in
    let second : List ℕ = 32 ∷ 104 ∷ 101 ∷ 108 ∷ 100 ∷ 32 ∷ decimal held ++ third in
    let h = digits-few 3 places in
    let k = digits-few 3 held in
    let m = digits-few 3 waiting in
    let l = length-append (decimal places) second in
    let i = length-append (decimal held) third in
    let j = length-append (decimal waiting) (10 ∷ []) in
    omega arith

pub closing-few : (places : ℕ) (s : Night) → length (closing places s) ≤ 32
unfolding closing
closing-few places s = last-few places (in_phases 3 3 s.posts) (in_phases 1 2 s.posts)
