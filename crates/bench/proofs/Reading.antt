-- What bytes write one by one is the output of the lines that they make. Assumes nothing.
use mathlib.Core.Path.{◌≡◌, refl, ap, ◌∙◌, sym}
use mathlib.Core.Logic.{⊎_elim}
use mathlib.Core.Bool.{Bool, true, false, not, cond, ◌&&◌, ◌||◌}
use mathlib.Core.List.{List, [], ◌∷◌, ◌++◌, append-nil}
use Prim.Native.Nat.{ℕ, ◌+◌, ◌≤◌, ◌<◌, min}
use native.Mathlib.Omega.{arith}
use native.Mathlib.Nat.{min-eq_left, min-eq_right}
use borrow.Author.Tests.{eq-eqb, ne_eqb, lt-ltb, le-ltb, lt-leb}
use lib.Dec.{ltb, eqb, eqb→eq}
use lib.ListN.{length, length-append}
use Rattle.laws.proofs.Tests.{test, neqb→ne, leb-total}
use Rattle.bench.specs.declared.Night.{Night}
use Rattle.bench.specs.declared.Bench.{Bench}
use Rattle.bench.specs.declared.lines.Header.{Header}
use Rattle.bench.specs.declared.lines.Command.{Command}
use Rattle.std.specs.Prelude.{Option, Some, None}
use Rattle.laws.specs.Search.{from, pairs}
use Rattle.text.specs.Decimal.{digits}
use Rattle.bench.specs.Text.{answer_line, bad_header}
use Rattle.bench.specs.Lines.{empty, header_of, header_text, command_of}
use Rattle.bench.specs.Night.{ran}
use Rattle.bench.specs.Bench.{Step, writes, halted, longer, opening, opens, headed, stops, turned, plain, stepped, closing, last_piece, closed, ending, unfed}
use Rattle.bench.specs.Output.{lines_from, answers_to, night_of, night_from, output}
use Rattle.bench.proofs.Turning.{answers_is, turned_header, turned_command, turned_stop, pending, none_pending}
use Rattle.bench.proofs.Kept.{Holds, holds_none, holds_more, command_kept, header_kept}
use Rattle.bench.proofs.Running.{runs, runs_step, over_runs}

-- ---- lines

lines_lf : (piece xs : List ℕ) (x : ℕ) → x ≡ 10 → lines_from piece (x ∷ xs) ≡ piece ∷ lines_from [] xs
unfolding lines_from
lines_lf piece xs x e = rw (eq-eqb x 10 e)

lines_on : (piece xs : List ℕ) (x : ℕ) → (x ≡ 10 → ⊥) → lines_from piece (x ∷ xs) ≡ lines_from (piece ++ (x ∷ [])) xs
unfolding lines_from
lines_on piece xs x e = rw (ne_eqb x 10 e)

lines_last : (piece : List ℕ) → 0 < length piece → lines_from piece [] ≡ piece ∷ []
unfolding lines_from
lines_last piece h = rw (ne_eqb (length piece) 0 (λ e. omega arith))

-- a piece with a byte begins a line
lines_some : (piece xs : List ℕ) → 0 < length piece → (l : List ℕ) × (ls : List (List ℕ)) × (lines_from piece xs ≡ l ∷ ls)
lines_some piece [] h = (piece, [], lines_last piece h)
lines_some piece (x ∷ xs) h =
    test (eqb x 10)
    (λ y. (piece, lines_from [] xs, lines_lf piece xs x (eqb→eq x 10 y)))
    (λ n.
    let r = lines_some (piece ++ (x ∷ [])) xs (let l = length-append piece (x ∷ []) in omega arith) in
    (r.0, r.1, lines_on piece xs x (neqb→ne x 10 n) ∙ r.2))

-- ---- steps

plain_on : (b : Bench) (x : ℕ) → (x ≡ 10 → ⊥) → eqb b.mode 0 || ltb b.number 256 ≡ true → stepped b x ≡ writes (longer b x) []
unfolding stepped plain
plain_on b x e t = rw (ne_eqb x 10 e, t)

turns_lf : (b : Bench) (x : ℕ) → x ≡ 10 → stepped b x ≡ turned b
unfolding stepped plain
turns_lf b x e = rw (eq-eqb x 10 e)

turns_full : (b : Bench) (x : ℕ) → eqb b.mode 0 || ltb b.number 256 ≡ false → stepped b x ≡ turned b
unfolding stepped plain
turns_full b x t = go (not (eqb x 10))
  where
    go : (s : Bool) → cond (s && (eqb b.mode 0 || ltb b.number 256)) (writes (longer b x) []) (turned b) ≡ turned b
    go true = rw t
    go false = refl

runs_as : (b : Bench) (x : ℕ) (xs : List ℕ) (s : Step) → b.mode < 2 → stepped b x ≡ s → runs b (x ∷ xs) ≡ s.text ++ runs s.bench xs
runs_as b x xs s h e = runs_step b x xs (lt-leb 2 b.mode h) ∙ ap (λ (s : Step). s.text ++ runs s.bench xs) e

ending_on : (b : Bench) → b.mode < 2 → ending b ≡ closed (last_piece b)
unfolding ending
ending_on b h = rw (lt-leb 2 b.mode h)

has_byte : (n : ℕ) → 1 ≤ n → min n 8 ≡ 0 → ⊥
has_byte n h e = ⊎_elim (λ k. let z = sym (min-eq_right k) ∙ e in omega arith) (λ k. let w : n ≤ 8 = omega arith in let z = sym (min-eq_left w) ∙ e in omega arith) (leb-total 8 n)

lines_zero : (piece : List ℕ) → length piece ≡ 0 → lines_from piece [] ≡ []
unfolding lines_from
lines_zero piece e = rw (eq-eqb (length piece) 0 e)

lines_any : (piece xs : List ℕ) (x : ℕ) → (l : List ℕ) × (ls : List (List ℕ)) × (lines_from piece (x ∷ xs) ≡ l ∷ ls)
lines_any piece xs x =
    test (eqb x 10)
    (λ y. (piece, lines_from [] xs, lines_lf piece xs x (eqb→eq x 10 y)))
    (λ n.
    let r = lines_some (piece ++ (x ∷ [])) xs (let l = length-append piece (x ∷ []) in omega arith) in
    (r.0, r.1, lines_on piece xs x (neqb→ne x 10 n) ∙ r.2))

-- ---- lines of commands

module _ (posts places : ℕ) (s : Night) (i : ℕ) (l : List ℕ) (ls : List (List ℕ)) where
  answers_more : i < 256
      → answers_to posts places s i (l ∷ ls)
      ≡ answer_line (i + 1) (command_of posts l) (ran s (command_of posts l)).number (ran s (command_of posts l)).granted
      ++ answers_to posts places (ran s (command_of posts l)).night (i + 1) ls
  unfolding answers_to
  answers_more h = rw (lt-ltb i 256 h)

  answers_stop : 256 ≤ i → answers_to posts places s i (l ∷ ls) ≡ answer_line 257 None 17 false ++ closing places s
  unfolding answers_to
  answers_stop h = rw (le-ltb i 256 h)

-- commands are read, and a piece of the next line
record Going (b : Bench) (piece : List ℕ) : Type 0 where
  mode : b.mode ≡ 1
  holds : Holds b.line piece
  few : b.number ≤ 256
  full : b.number ≡ 256 → length piece ≡ 0

module _ (b : Bench) (piece : List ℕ) (g : Going b piece) where
  abbrev asks : Option Command
  asks = command_of b.posts piece

  abbrev next : Bench
  next = record { night = (ran b.night asks).night; posts = b.posts; places = b.places; number = b.number + 1; mode = 1; line = empty }

  abbrev answer : Step
  answer = writes next (answer_line (b.number + 1) asks (ran b.night asks).number (ran b.night asks).granted)

  below_two : b.mode < 2
  below_two = let m = g.mode in omega arith

  not_header : b.mode ≡ 0 → ⊥
  not_header e = let m = g.mode in omega arith

  answers_piece : b.number < 256 → turned b ≡ answer
  answers_piece h =
      turned_command b not_header h
      ∙ answers_is b asks (ran b.night asks) (sym (ap (command_of b.posts) g.holds.text ∙ command_kept b.posts piece)) refl

  next_going : b.number < 256 → Going next []
  next_going h = record { mode = refl; holds = holds_none; few = omega arith; full = λ e. refl }

  longer_going : (x : ℕ) → b.number < 256 → Going (longer b x) (piece ++ (x ∷ []))
  longer_going x h = record { mode = g.mode; holds = holds_more b.line piece x g.holds; few = g.few; full = λ e. absurd (omega arith) }

  at_end : ending b ≡ answers_to b.posts b.places b.night b.number (lines_from piece [])
  unfolding closed answers_to
  at_end = ⊎_elim some none (leb-total 1 (length piece))
    where
      none : length piece < 1 → ending b ≡ answers_to b.posts b.places b.night b.number (lines_from piece [])
      none h =
          let z : length piece ≡ 0 = omega arith in
          let l : b.line.len ≡ 0 = g.holds.len ∙ ap (λ (n : ℕ). min n 8) z in
          ending_on b below_two
          ∙ ap closed (none_pending b (rw (ne_eqb b.mode 0 not_header, eq-eqb b.line.len 0 l)))
          ∙ (rw (eq-eqb b.mode 1 g.mode))
          ∙ ap (answers_to b.posts b.places b.night b.number) (sym (lines_zero piece z))

      some : 1 ≤ length piece → ending b ≡ answers_to b.posts b.places b.night b.number (lines_from piece [])
      some h =
          let r : b.number < 256 = ⊎_elim (λ k. let f = g.few in let z = g.full (omega arith) in absurd (omega arith)) (λ k. k) (leb-total 256 b.number) in
          ending_on b below_two
          ∙ ap closed (pending b (rw (ne_eqb b.mode 0 not_header, ne_eqb b.line.len 0 (λ e. has_byte (length piece) h (sym g.holds.len ∙ e)))) ∙ answers_piece r)
          ∙ sym (ap (answers_to b.posts b.places b.night b.number) (lines_last piece h) ∙ answers_more b.posts b.places b.night b.number piece [] r)

abbrev answers_for : Bench → List (List ℕ) → List ℕ
answers_for b ls = answers_to b.posts b.places b.night b.number ls

commands_run : (xs : List ℕ) (b : Bench) (piece : List ℕ) → Going b piece → runs b xs ≡ answers_for b (lines_from piece xs)
unfolding runs stops
commands_run [] b piece g = at_end b piece g
commands_run (x ∷ xs) b piece g =
    ⊎_elim
    (λ k.
    let r = lines_any piece xs x in
    runs_as b x xs (stops b) (below_two b piece g)
    (turns_full b x (rw (ne_eqb b.mode 0 (not_header b piece g)) (le-ltb b.number 256 k)) ∙ turned_stop b (not_header b piece g) k)
    ∙ ap (λ (l : List ℕ). (stops b).text ++ l) (over_runs (halted b) xs refl)
    ∙ append-nil (stops b).text
    ∙ sym (ap (answers_for b) r.2 ∙ answers_stop b.posts b.places b.night b.number r.0 r.1 k))
    (λ k.
    test (eqb x 10)
    (λ y.
    let e = eqb→eq x 10 y in
    runs_as b x xs (answer b piece g) (below_two b piece g) (turns_lf b x e ∙ answers_piece b piece g k)
    ∙ ap (λ (l : List ℕ). (answer b piece g).text ++ l) (commands_run xs (next b piece g) [] (next_going b piece g k))
    ∙ sym (ap (answers_for b) (lines_lf piece xs x e) ∙ answers_more b.posts b.places b.night b.number piece (lines_from [] xs) k))
    (λ n.
    let d = neqb→ne x 10 n in
    runs_as b x xs (writes (longer b x) []) (below_two b piece g) (plain_on b x d (rw (ne_eqb b.mode 0 (not_header b piece g)) (lt-ltb b.number 256 k)))
    ∙ commands_run xs (longer b x) (piece ++ (x ∷ [])) (longer_going b piece g x k)
    ∙ sym (ap (answers_for b) (lines_on piece xs x d))))
    (leb-total 256 b.number)

-- ---- the header

headed_piece : (b : Bench) (piece : List ℕ) → b.mode ≡ 0 → Holds b.line piece → turned b ≡ opens b (header_of piece)
unfolding headed
headed_piece b piece m h = turned_header b m ∙ ap (opens b) (ap header_of h.text ∙ header_kept piece)

opens_end : (b : Bench) (h : Option Header) → closed (opens b h) ≡ night_of h []
unfolding closed answers_to
opens_end b (Some h) = refl
opens_end b None = refl

opens_run : (b : Bench) (h : Option Header) (xs : List ℕ) → (opens b h).text ++ runs (opens b h).bench xs ≡ night_of h (lines_from [] xs)
opens_run b (Some h) xs = commands_run xs (opening h) [] (record { mode = refl; holds = holds_none; few = omega arith; full = λ e. refl })
opens_run b None xs = ap (λ (l : List ℕ). bad_header ++ l) (over_runs (halted b) xs refl)

no_header : night_of (header_of []) [] ≡ bad_header
unfolding header_of pairs from header_text digits
no_header = refl

-- a line that ends: the last of the input, or with LF
night_piece : (piece : List ℕ) → night_from (lines_from piece []) ≡ night_of (header_of piece) []
unfolding night_from lines_from
night_piece [] = sym no_header
night_piece (x ∷ xs) = rw (ne_eqb (length (x ∷ xs)) 0 (λ e. omega arith))

header_runs : (xs : List ℕ) (b : Bench) (piece : List ℕ) → b.mode ≡ 0 → Holds b.line piece → runs b xs ≡ night_from (lines_from piece xs)
unfolding runs night_from
header_runs [] b piece m h =
    ending_on b (omega arith) ∙ ap closed (pending b (rw (eq-eqb b.mode 0 m)) ∙ headed_piece b piece m h) ∙ opens_end b (header_of piece) ∙ sym (night_piece piece)
header_runs (x ∷ xs) b piece m h =
    test (eqb x 10)
    (λ y.
    let e = eqb→eq x 10 y in
    runs_as b x xs (opens b (header_of piece)) (omega arith) (turns_lf b x e ∙ headed_piece b piece m h)
    ∙ opens_run b (header_of piece) xs
    ∙ sym (ap night_from (lines_lf piece xs x e)))
    (λ n.
    let d = neqb→ne x 10 n in
    runs_as b x xs (writes (longer b x) []) (omega arith) (plain_on b x d (rw (eq-eqb b.mode 0 m)))
    ∙ header_runs xs (longer b x) (piece ++ (x ∷ [])) m (holds_more b.line piece x h)
    ∙ sym (ap night_from (lines_on piece xs x d)))

pub unfed_runs : (input : List ℕ) → runs unfed input ≡ output input
unfolding unfed output
unfed_runs input = header_runs input unfed [] refl holds_none
