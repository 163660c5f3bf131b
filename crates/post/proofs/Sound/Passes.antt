-- A record that has what a sound record has passes the test. Assumes nothing.
use mathlib.Core.Bool.{not, ◌||◌}
use mathlib.Core.List.{List}
use Prim.Native.Nat.{ℕ, zero, suc, ◌+◌, ◌<◌}
use lib.Dec.{T, leb, ltb, eqb, le→leb, lt→ltb, nltb→le, eqb→eq}
use lib.ListN.{length, get_or, drop, replicate}
use mir.Facts.{yes_and}
use Rattle.laws.specs.Ladder.{every}
use Rattle.laws.specs.Lists.{all, many}
use Rattle.laws.specs.Below.{sum_to}
use Rattle.laws.proofs.Tests.{test, or_l, or_r, neqb→ne}
use Rattle.laws.proofs.EveryLaws.{all_of}
use Rattle.laws.proofs.BelowLaws.{at_all_to}
use Rattle.laws.proofs.CountLaws.{at_all}
use Rattle.laws.proofs.LeadingLaws.{rises_passes}
use Rattle.frame.specs.declared.Message.{Message}
use Rattle.frame.specs.Message.{blank, counted, stamp, by}
use Rattle.post.specs.declared.Post.{Post}
use Rattle.post.specs.Record.{start_of, last_of, waiting_of, floor}
use Rattle.post.specs.Sound.{absent_silent, clock_above, fair, none_alone, is_blank, few, sum_fits, number_rules, slot_rules, count_rules, sound}
use Rattle.calls.proofs.Ranges.{is_range}
use Rattle.post.proofs.Sound.Facts.{Fair, Sound}

fair_passes : (posts : ℕ) (last : List ℕ) (m : Message) → Fair posts last m → T (fair posts last m)
unfolding fair
fair_passes posts last m f =
    yes_and (ltb m.sender posts) _ (lt→ltb m.sender posts f.sender) (
    yes_and (counted m) _ f.kind (
    yes_and (leb 1 m.counter) _ (le→leb 1 m.counter f.low) (le→leb m.counter (get_or last m.sender 0) f.high)))

blank_passes : (n : ℕ) → T (all is_blank (replicate n blank))
unfolding all is_blank
blank_passes zero = tt
blank_passes (suc n) = blank_passes n

module _ (p : Post) (s : Sound p) where
  number_rules_lem : T (every (number_rules p))
  unfolding number_rules absent_silent clock_above
  number_rules_lem =
      all_of (number_rules p) (
        is_range (start_of p) s.range,
        (le→leb p.phase 3 s.phase, (le→leb p.waits 62 s.waits, (at_all_to 16 _ absent, (at_all_to 16 _ (λ q l. le→leb (last_of p q) p.clock (s.clock q l)), tt)))),
      )
    where
      absent : (q : ℕ) → q < 16 → T (ltb q p.posts || eqb (last_of p q) 0)
      absent q l =
          test (ltb q p.posts) (λ y. or_l (ltb q p.posts) _ y)
          (λ n. or_r (ltb q p.posts) _ (rw (s.absent q l (nltb→le q p.posts n)) tt))

  slot_rules_lem : T (every (slot_rules p))
  unfolding slot_rules none_alone few
  slot_rules_lem =
      all_of (slot_rules p) (
        at_all (fair p.posts p.last) (waiting_of p) (λ m i. fair_passes p.posts p.last m (s.fair m i)),
        (
          rises_passes stamp (floor p) (waiting_of p) s.rising s.above,
          (
            alone,
            (rw s.blanks (blank_passes (length (drop p.waits p.slots))), (at_all_to p.posts _ few_each, (s.own_few_lem, tt))),
          ),
        ),
      )
    where
      alone : T (not (eqb p.posts 1) || eqb p.waits 0)
      alone =
          test (eqb p.posts 1)
          (λ y. or_r (not (eqb p.posts 1)) _ (rw (s.alone (eqb→eq p.posts 1 y)) tt))
          (λ n. or_l (not (eqb p.posts 1)) _ n)

      few_each : (q : ℕ) → q < p.posts → T (eqb q p.own || leb (many (by q) (waiting_of p)) 4)
      few_each q l =
          test (eqb q p.own) (λ y. or_l (eqb q p.own) _ y)
          (λ n. or_r (eqb q p.own) _ (le→leb (many (by q) (waiting_of p)) 4 (s.few q l (neqb→ne q p.own n))))

  count_rules_lem : T (every (count_rules p))
  unfolding count_rules sum_fits
  count_rules_lem = all_of (count_rules p) (le→leb (p.takes + p.returns + p.waits) (sum_to 16 (last_of p)) s.sum, (s.order, tt))

  pub sound_passes : T (sound p)
  unfolding sound
  sound_passes = yes_and (every (number_rules p)) _ number_rules_lem (yes_and (every (slot_rules p)) _ slot_rules_lem count_rules_lem)
