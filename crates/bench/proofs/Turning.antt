-- What a whole line of commands makes of the bench. Assumes nothing.
use mathlib.Core.Path.{◌≡◌, refl, ap, ap₂, ◌∙◌, sym}
use mathlib.Core.Bool.{Bool, true, false, true≢false, not, cond, ◌&&◌, ◌||◌}
use mathlib.Core.List.{[]}
use Prim.Native.Nat.{◌+◌, ◌≤◌, ◌<◌}
use Rattle.std.specs.Prelude.{Option, Some, None, Result}
use native.Mathlib.Omega.{arith}
use borrow.Author.Tests.{eq-eqb, ne_eqb, lt-ltb, le-ltb}
use lib.Dec.{eqb, ltb}
use lib.ListN.{length}
use Rattle.laws.specs.Search.{from}
use Rattle.bench.specs.declared.Line.{Line}
use Rattle.bench.specs.declared.Night.{Night}
use Rattle.bench.specs.declared.Bench.{Bench}
use Rattle.bench.specs.declared.writing.Page.{Page}
use Rattle.frame.specs.declared.refusal.Refusal.{Refusal}
use Rattle.frame.specs.Refusal.{number_in}
use Rattle.bench.specs.declared.lines.Header.{Header}
use Rattle.bench.specs.declared.lines.Command.{Command}
use Rattle.bench.specs.Text.{answer_line}
use Rattle.bench.specs.Lines.{empty, kept, header_of, command_of}
use Rattle.bench.specs.Night.{begun, Ran, ran}
use Rattle.bench.specs.Inside.{granted_in, giving, Writes, Room, Turns}
use Rattle.bench.specs.Bench.{Step, writes, opens, headed, answers, stops, turned, last_piece}
use Rattle.bench.proofs.Lengths.{answer-few}

module _ (b : Bench) (c : Option Command) (r : Ran) (e : c ≡ command_of b.posts (kept b.line)) (d : r ≡ ran b.night c) where
  abbrev gives : Option Command → Ran → Step
  gives c r =
      writes (record { night = r.night; posts = b.posts; places = b.places; number = b.number + 1; mode = 1; line = empty })
      (answer_line (b.number + 1) c r.number r.granted)

  pub answers_is : answers b ≡ gives c r
  unfolding answers
  answers_is = ap₂ gives (sym e) (sym (d ∙ ap (ran b.night) e))

module _ (b : Bench) where
  pub turned_header : b.mode ≡ 0 → turned b ≡ headed b
  unfolding turned
  turned_header z = rw (eq-eqb b.mode 0 z)

  pub turned_command : (b.mode ≡ 0 → ⊥) → b.number < 256 → turned b ≡ answers b
  unfolding turned
  turned_command z h = rw (ne_eqb b.mode 0 z, lt-ltb b.number 256 h)

  pub turned_stop : (b.mode ≡ 0 → ⊥) → 256 ≤ b.number → turned b ≡ stops b
  unfolding turned
  turned_stop z h = rw (ne_eqb b.mode 0 z, le-ltb b.number 256 h)

  -- where no command is asked for, 16 records stay 16
  pub turned_long : not (eqb b.mode 0) && ltb b.number 256 ≡ false → length b.night.posts ≡ 16 → length (turned b).bench.night.posts ≡ 16
  unfolding turned headed stops begun from
  turned_long e n = go (eqb b.mode 0) (ltb b.number 256) e
    where
      heads : (h : Option Header) → length (opens b h).bench.night.posts ≡ 16
      heads (Some h) = refl
      heads None = n

      go : (s t : Bool) → not s && t ≡ false → length (cond s (headed b) (cond t (answers b) (stops b))).bench.night.posts ≡ 16
      go true t e = heads (header_of (kept b.line))
      go false true e = absurd (true≢false e)
      go false false e = n

  pub pending : eqb b.mode 0 || not (eqb b.line.len 0) ≡ true → last_piece b ≡ turned b
  unfolding last_piece
  pending t = rw t

  pub none_pending : eqb b.mode 0 || not (eqb b.line.len 0) ≡ false → last_piece b ≡ writes b []
  unfolding last_piece
  none_pending t = rw t

module _ (b : Bench) (c : Option Command) (s : Night) (g : Result Bool Refusal) (e : c ≡ command_of b.posts (kept b.line)) (d : giving s g ≡ ran b.night c) where
  -- the bench that has answered, and what it wrote
  pub answers_turn : (line : Line) → line ≡ empty → {old new : Page} → Room old → Writes old new (answer_line (b.number + 1) c (number_in g) (granted_in g))
      → Turns (answers b) (record { night = s; posts = b.posts; places = b.places; number = b.number + 1; mode = 1; line = line }) old new
  answers_turn line l h w =
      let n = answer-few (b.number + 1) c (number_in g) (granted_in g) in
      let p = w.lays.puts (omega arith) in
      let x = p.next_place in
      rw (answers_is b c (giving s g) e d)
      (record {
        bench = λ i. record { night = s; posts = b.posts; places = b.places; number = b.number + 1; mode = 1; line = l i };
        puts = p;
        same = w.same;
        few = omega arith;
        going = λ z. omega arith;
      })
