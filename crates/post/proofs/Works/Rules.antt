-- The rows of the rules, from what the code's functions say. Assumes nothing.
use mathlib.Core.Path.{◌≡◌, refl, ap, ◌∙◌, sym}
use mathlib.Core.Bool.{Bool, true, false, ◌&&◌, ◌||◌, and-true, and-false, false≢true}
use mathlib.Core.List.{List}
use Prim.Native.Nat.{ℕ, ◌≤◌, ◌<◌}
use native.Mathlib.Omega.{arith}
use denote.Floats.{passes}
use lib.Dec.{leb, ltb, eqb, leb→le}
use lib.ListN.{length, get_or, take}
use Rattle.laws.specs.Ladder.{every}
use Rattle.laws.specs.Lists.{all, many, rises}
use Rattle.std.specs.List.{list_all, enumerate_from, sum}
use Rattle.std.proofs.lemmas.List.{get_or-take, length-take-le}
use Rattle.laws.specs.Below.{all_to, sum_to}
use Rattle.laws.proofs.ScanLaws.{all_to_both, all_to_cong, all_each, sum_each}
use Rattle.frame.specs.Message.{stamp, by}
use Rattle.post.specs.declared.Post.{Post}
use Rattle.post.specs.declared.slots.Seen.{Seen}
use Rattle.post.specs.Record.{start_of, last_of, waiting_of, floor}
use Rattle.post.specs.Inside.{InBounds, in_order, Found}
use Rattle.post.specs.Sound.{absent_silent, clock_above, fair, none_alone, few, own_fits, own_few, number_rules, slot_rules}
use Rattle.calls.proofs.Ranges.{range_is}
use Rattle.laws.proofs.EveryLaws.{each}

-- the two rules on last counters are one test of each
pub lasts_fit : (p : Post) → length p.last ≡ 16 → list_all (λ x. (ltb x.0 p.posts || eqb x.1 0) && leb x.1 p.clock) (enumerate_from 0 p.last) ≡ absent_silent p && clock_above p
unfolding absent_silent clock_above
lasts_fit p h = sym (all_each (λ x. (ltb x.0 p.posts || eqb x.1 0) && leb x.1 p.clock) p.last 0 16 h) ∙ all_to_both 16 _ _

pub sum_is : (p : Post) → length p.last ≡ 16 → sum p.last ≡ sum_to 16 (last_of p)
sum_is p h = sym (sum_each p.last 16 h)

-- the first rules of the slots are those that the look tests
module _ (p : Post) where
  pub disorder : in_order p (floor p) ≡ false → every (slot_rules p) ≡ false
  unfolding slot_rules in_order
  disorder = go (all (fair p.posts p.last) (waiting_of p)) (rises stamp (floor p) (waiting_of p)) (none_alone p) _ _
    where
      go : (a b c d e : Bool) → (a && b) && d ≡ false → a && (b && (c && (d && e))) ≡ false
      go true true c d e n = rw n (and-false c)
      go true false c d e n = refl
      go false b c d e n = refl

  pub order : in_order p (floor p) ≡ true → every (slot_rules p) ≡ (none_alone p && all_to p.posts (few p)) && own_few p
  unfolding slot_rules in_order
  order = go (all (fair p.posts p.last) (waiting_of p)) (rises stamp (floor p) (waiting_of p)) (none_alone p) _ _ _
    where
      go : (a b c d e f : Bool) → (a && b) && d ≡ true → a && (b && (c && (d && (e && (f && true))))) ≡ (c && e) && f
      go true true true d e f y = rw (y, and-true f)
      go true true false d e f y = refl
      go true false c d e f y = absurd (false≢true y)
      go false b c d e f y = absurd (false≢true y)

-- how many of each other sender wait, as the look found it
pub few_is : (p : Post) (counts : List ℕ) → length counts ≡ 16 → p.posts ≤ 16 → ((q : ℕ) → q < 16 → get_or counts q 0 ≡ many (by q) (waiting_of p))
    → list_all (λ x. eqb x.0 p.own || leb x.1 4) (enumerate_from 0 (take p.posts counts)) ≡ all_to p.posts (few p)
unfolding few
few_is p counts l h c =
    sym (all_each (λ x. eqb x.0 p.own || leb x.1 4) (take p.posts counts) 0 p.posts (length-take-le p.posts counts (omega arith)))
    ∙ all_to_cong p.posts _ _ (λ q k. ap (λ (n : ℕ). eqb q p.own || leb n 4) (get_or-take p.posts counts q 0 k ∙ c q (omega arith)))

-- the own messages, as the look found them
pub own_is : (p : Post) (seen : Seen) → Found p.own (waiting_of p) seen → own_fits p.phase seen.takes seen.returns seen.end ≡ own_few p
unfolding own_few
own_is p seen w = λ i. own_fits p.phase (w.takes i) (w.returns i) (w.end i)

-- what the later functions need of the numbers
pub numbers_has : (p : Post) → every (number_rules p) ≡ true → InBounds p
unfolding number_rules
numbers_has p e =
    let n = each (number_rules p) (passes _ e) in
    let r = range_is (start_of p) n.0 in
    record { posts = r.posts_high; waits = leb→le p.waits 62 n.1.1.0 }
