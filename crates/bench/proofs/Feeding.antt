-- A turn of feed's loop, and its end; what finish writes. Assumes nothing.
use mathlib.Core.Path.{◌≡◌, refl, ap, ◌∙◌, sym}
use mathlib.Core.Bool.{Bool, true, false, true≢false, ◌||◌}
use mathlib.Core.List.{List, append-nil}
use Prim.Native.Nat.{ℕ, ◌+◌, ◌-◌, ◌≤◌, ◌<◌}
use native.Mathlib.Omega.{arith}
use borrow.Author.Tests.{ltb-false, eq-eqb, ne_eqb, lt-ltb, le-ltb}
use lib.Dec.{ltb}
use lib.ListN.{length, get_or, drop, drop_of_length-le}
use lib.Seq.{sets}
use Rattle.laws.proofs.ScanLaws.{next_drop}
use Rattle.text.specs.Puts.{Puts}
use Rattle.text.proofs.Putting.{then, spelled}
use Rattle.std.proofs.Common.{Some, None, subst}
use Rattle.bench.specs.declared.Bench.{Bench}
use Rattle.bench.specs.declared.writing.Page.{Page}
use Rattle.bench.specs.Inside.{Writes, Turns}
use Rattle.bench.specs.Bench.{Step, is_over, stepped, stopped, Feeding, feeding, Feeds, closing, last_piece, closed, ending, finished, finished_bytes, Ends}
use Rattle.bench.proofs.Lengths.{closing-few}

module _ (input : List ℕ) (b : Bench) (used : ℕ) (page : Page) where
  abbrev from : List ℕ → Feeding
  from l = feeding b l used page.at page.out.now

  abbrev stops : Bool
  stops = is_over b || ltb (length page.out.now - page.at) 64

  pub feed_end : length input ≤ used → from (drop used input) ≡ stopped b used page.at page.out.now
  unfolding feeding
  feed_end h = ap from (drop_of_length-le input h)

  module _ (h : used < length input) where
    pub feed_stop : stops ≡ true → from (drop used input) ≡ stopped b used page.at page.out.now
    unfolding feeding
    feed_stop t = ap from (next_drop input used 0 h) ∙ rw t

    abbrev step : Step
    step = stepped b (get_or input used 0)

    feed_step : stops ≡ false → from (drop used input) ≡ feeding step.bench (drop (used + 1) input) (used + 1) (page.at + length step.text) (sets page.out.now page.at step.text)
    unfolding feeding
    feed_step t = ap from (next_drop input used 0 h) ∙ rw t

    -- a step that was made
    pub feed_on : stops ≡ false → (b' : Bench) {new : Page} → Turns step b' page new → feeding b' (drop (used + 1) input) (used + 1) new.at new.out.now ≡ from (drop used input)
    feed_on t b' u = (λ i. feeding (u.bench i) (drop (used + 1) input) (used + 1) (u.puts.next_place i) (u.puts.bytes i)) ∙ sym (feed_step t)

-- what feed hands back where it stops, and what stands after
pub feeds : {f : Feeding} {b : Bench} {used at : ℕ} {out : List ℕ} → stopped b used at out ≡ f → {n : ℕ} → n ≡ used → {over : Bool} → over ≡ is_over b → {after : List ℕ} → after ≡ out
    → Feeds f b (record { used = n; written = at; over = over }) after
feeds {at = at} e n o a = record {
  bench = λ i. (e i).bench;
  gives = (λ i. record { used = n i; written = at; over = o i }) ∙ (λ i. (e i).fed);
  leaves = a ∙ (λ i. (e i).bytes);
}

-- where it does not stop there is room
pub roomy : (b : Bench) (at : ℕ) (out : List ℕ) → is_over b || ltb (length out - at) 64 ≡ false → 64 ≤ length out - at
roomy b at out e = go (is_over b) e
  where
    go : (s : Bool) → s || ltb (length out - at) 64 ≡ false → 64 ≤ length out - at
    go true e = absurd (true≢false e)
    go false e = ltb-false (length out - at) 64 e

-- ---- finish

module _ (b : Bench) (out : List ℕ) where
  pub no_room : length out < 64 → Ends (finished b out) (finished_bytes b out) None out
  unfolding finished finished_bytes
  no_room h = record { gives = rw (lt-ltb (length out) 64 h); leaves = rw (lt-ltb (length out) 64 h) }

  -- with room: the ending is put at the start
  finishes : 64 ≤ length out → (out' : List ℕ) (n : ℕ) → Puts out out' 0 (ending b) n
      → Ends (finished b out) (finished_bytes b out) (Some n) out'
  unfolding finished finished_bytes
  finishes h out' n p = record {
    gives = rw (le-ltb (length out) 64 h) (λ i. Some ((p.next_place ∙ (let z : 0 + length (ending b) ≡ length (ending b) = omega arith in z)) i));
    leaves = rw (le-ltb (length out) 64 h) p.bytes;
  }

  pub was_over : 64 ≤ length out → is_over b ≡ true → Ends (finished b out) (finished_bytes b out) (Some 0) out
  unfolding ending
  was_over h k = finishes h out 0 (rw k (record { next_place = refl; bytes = refl; long = refl }))

-- on a page from its start; what it has at the end stands after
module _ (b : Bench) {old mid : Page} (h : 64 ≤ length old.out.now) (z : old.at ≡ 0) (k : is_over b ≡ false) (b' : Bench) (u : Turns (last_piece b) b' old mid) where
  abbrev Done : ℕ → List ℕ → Type 0
  Done n after = Ends (finished b old.out.now) (finished_bytes b old.out.now) (Some n) after

  ends : (n : ℕ) (new : List ℕ) → Puts old.out.now new old.at (closed (last_piece b)) n → Done n new
  unfolding ending
  ends n new p = finishes b old.out.now h new n (rw k (subst (λ (at : ℕ). Puts old.out.now new at (closed (last_piece b)) n) z p))

  mode_of : (last_piece b).bench.mode ≡ b'.mode
  mode_of = λ i. (sym u.bench i).mode

  pub ends_over : (b'.mode ≡ 1 → ⊥) → {after : List ℕ} → after ≡ mid.out.now → Done mid.at after
  unfolding closed
  ends_over m e = rw e (ends mid.at mid.out.now (rw (ne_eqb (last_piece b).bench.mode 1 (λ e. m (sym mode_of ∙ e)), append-nil (last_piece b).text) u.puts))

  pub ends_on : b'.mode ≡ 1 → {new : Page} → Writes mid new (closing b'.places b'.night) → {after : List ℕ} → after ≡ new.out.now → Done new.at after
  unfolding closed
  ends_on m {new} w e =
      let g = u.going m in
      let l = u.puts.long in
      let f = closing-few b'.places b'.night in
      rw e
      (ends new.at new.out.now
      (rw (eq-eqb (last_piece b).bench.mode 1 (mode_of ∙ m)) (then u.puts (spelled (λ i. closing (u.bench i).places (u.bench i).night) (w.lays.puts (omega arith))))))
