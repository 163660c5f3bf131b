-- What a sound record has, rule by rule. Assumes nothing.
use mathlib.Core.Path.{◌≡◌, refl, ap₂}
use mathlib.Core.Logic.{⊎_elim}
use mathlib.Core.Bool.{not, ◌||◌}
use mathlib.Core.List.{List, [], ◌∷◌}
use Prim.Native.Nat.{ℕ, ◌+◌, ◌≤◌, ◌<◌}
use native.Mathlib.Omega.{arith}
use lib.Dec.{T, leb, ltb, eqb, leb→le, ltb→lt, eqb→eq, T_not}
use lib.ListN.{length, get_or, drop, replicate}
use Rattle.laws.specs.Ladder.{every}
use Rattle.laws.specs.Lists.{In, all, many, Rising}
use Rattle.laws.specs.Below.{sum_to}
use Rattle.laws.proofs.Tests.{and_l, and_r, or_e}
use Rattle.laws.proofs.EveryLaws.{each}
use Rattle.laws.proofs.BelowLaws.{all_to_at}
use Rattle.laws.proofs.ScanLaws.{all_at}
use Rattle.laws.proofs.LeadingLaws.{rises_above, rises_rising}
use Rattle.frame.specs.declared.Message.{Message}
use Rattle.frame.specs.Message.{msg, blank, counted, stamp, by}
use Rattle.post.specs.declared.Post.{Post}
use Rattle.post.specs.Record.{start_of, last_of, waiting_of, floor}
use Rattle.post.specs.Sound.{absent_silent, clock_above, fair, none_alone, is_blank, few, own_few, sum_fits, order_fits, number_rules, slot_rules, count_rules, sound}
use Rattle.post.specs.Settle.{free}
use Rattle.calls.proofs.Ranges.{Range, range_is}

pub record Fair (posts : ℕ) (last : List ℕ) (m : Message) : Type 0 where
  pub sender : m.sender < posts
  pub kind : T (counted m)
  pub low : 1 ≤ m.counter
  pub high : m.counter ≤ get_or last m.sender 0

pub record Sound (p : Post) : Type 0 where
  pub range : Range (start_of p)
  pub phase : p.phase ≤ 3
  pub waits : p.waits ≤ 62
  pub absent : (q : ℕ) → q < 16 → p.posts ≤ q → last_of p q ≡ 0
  pub clock : (q : ℕ) → q < 16 → last_of p q ≤ p.clock
  pub fair : (m : Message) → In m (waiting_of p) → Fair p.posts p.last m
  pub rising : Rising stamp (waiting_of p)
  pub above : (m : Message) → In m (waiting_of p) → floor p < stamp m
  pub alone : p.posts ≡ 1 → p.waits ≡ 0
  pub blanks : drop p.waits p.slots ≡ replicate (length (drop p.waits p.slots)) blank
  pub few : (q : ℕ) → q < p.posts → (q ≡ p.own → ⊥) → many (by q) (waiting_of p) ≤ 4
  pub own_few_lem : T (own_few p)
  pub sum : p.takes + p.returns + p.waits ≤ sum_to 16 (last_of p)
  pub order : T (order_fits p.phase p.order p.takes (free p))

pub fair_is : (posts : ℕ) (last : List ℕ) (m : Message) → T (fair posts last m) → Fair posts last m
unfolding fair
fair_is posts last m t =
    let a = and_r (ltb m.sender posts) _ t in
    let b = and_r (counted m) _ a in
    record {
      sender = ltb→lt m.sender posts (and_l (ltb m.sender posts) _ t);
      kind = and_l (counted m) _ a;
      low = leb→le 1 m.counter (and_l (leb 1 m.counter) _ b);
      high = leb→le m.counter _ (and_r (leb 1 m.counter) _ b);
    }

blank_is : (m : Message) → T (is_blank m) → m ≡ blank
unfolding is_blank
blank_is m t =
    let k = eqb→eq m.kind 0 (and_l (eqb m.kind 0) _ t) in
    let a = and_r (eqb m.kind 0) _ t in
    let q = eqb→eq m.sender 0 (and_l (eqb m.sender 0) _ a) in
    let c = eqb→eq m.counter 0 (and_r (eqb m.sender 0) _ a) in
    λ i. msg (k i) (q i) (c i)

pub blanks_are : (ms : List Message) → T (all is_blank ms) → ms ≡ replicate (length ms) blank
unfolding all
blanks_are [] t = refl
blanks_are (x ∷ ms) t = ap₂ ◌∷◌ (blank_is x (and_l (is_blank x) _ t)) (blanks_are ms (and_r (is_blank x) _ t))

pub sound_has : (p : Post) → T (sound p) → Sound p
unfolding sound number_rules slot_rules count_rules absent_silent clock_above none_alone few sum_fits
sound_has p t =
    let n = each (number_rules p) (and_l (every (number_rules p)) _ t) in
    let s = and_r (every (number_rules p)) _ t in
    let w = each (slot_rules p) (and_l (every (slot_rules p)) _ s) in
    let c = each (count_rules p) (and_r (every (slot_rules p)) _ s) in
    record {
      range = range_is (start_of p) n.0;
      phase = leb→le p.phase 3 n.1.0;
      waits = leb→le p.waits 62 n.1.1.0;
      absent = λ q l h. ⊎_elim (λ y. absurd (let z = ltb→lt q p.posts y in omega arith)) (λ y. eqb→eq (last_of p q) 0 y)
          (or_e (ltb q p.posts) _ (all_to_at 16 (λ x. ltb x p.posts || eqb (last_of p x) 0) n.1.1.1.0 q l));
      clock = λ q l. leb→le (last_of p q) p.clock (all_to_at 16 (λ x. leb (last_of p x) p.clock) n.1.1.1.1.0 q l);
      fair = λ m i. fair_is p.posts p.last m (all_at (fair p.posts p.last) (waiting_of p) w.0 m i);
      rising = rises_rising stamp (floor p) (waiting_of p) w.1.0;
      above = rises_above stamp (floor p) (waiting_of p) w.1.0;
      alone = λ e. ⊎_elim (λ y. absurd (T_not (eqb p.posts 1) y (rw e tt))) (λ y. eqb→eq p.waits 0 y) (or_e (not (eqb p.posts 1)) _ w.1.1.0);
      blanks = blanks_are (drop p.waits p.slots) w.1.1.1.0;
      few = λ q l d. ⊎_elim (λ y. absurd (d (eqb→eq q p.own y))) (λ y. leb→le _ 4 y)
          (or_e (eqb q p.own) _ (all_to_at p.posts (few p) w.1.1.1.1.0 q l));
      own_few_lem = w.1.1.1.1.1.0;
      sum = leb→le _ (sum_to 16 (last_of p)) c.0;
      order = c.1.0;
    }
