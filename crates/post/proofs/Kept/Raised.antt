-- Last counters that rose, one after another: what a call leaves in them. Assumes nothing.
use mathlib.Core.Path.{◌≡◌, ◌∙◌}
use mathlib.Core.List.{List}
use Prim.Native.Nat.{ℕ, suc, ◌+◌, ◌≤◌, ◌<◌}
use native.Mathlib.Omega.{arith}
use lib.ListN.{length, get_or, set, length-set}
use lib.Seq.{get_or-set_other}
use Rattle.laws.specs.Below.{sum_to}
use Rattle.laws.proofs.SetLaws.{set_up, set_below, sum_set}
use Rattle.post.specs.declared.Post.{Post}
use Rattle.post.specs.Record.{last_of}
use Rattle.post.proofs.Sound.Facts.{Sound}
use Rattle.post.proofs.Fields.Shape.{Shape}

-- to these, none above c, by d or more in all
pub record Raised (p : Post) (last : List ℕ) (c d : ℕ) : Type 0 where
  pub long : length last ≡ 16
  pub up : (q : ℕ) → last_of p q ≤ get_or last q 0
  pub clock : (q : ℕ) → q < 16 → get_or last q 0 ≤ c
  pub absent : (q : ℕ) → q < 16 → p.posts ≤ q → get_or last q 0 ≡ 0
  pub sum : sum_to 16 (last_of p) + d ≤ sum_to 16 (λ q. get_or last q 0)

module _ (p : Post) (s : Sound p) where
  pub raised_none : Shape p → Raised p p.last p.clock 0
  raised_none h = record { long = h.last; up = λ q. omega arith; clock = s.clock; absent = s.absent; sum = omega arith }

  pub raised_more : (last : List ℕ) (c d z x c' : ℕ) → Raised p last c d → z < p.posts → get_or last z 0 < x → x ≤ c' → c ≤ c' → Raised p (set last z x) c' (suc d)
  raised_more last c d z x c' r lz lo hi le =
      let long = r.long in
      record {
        long = length-set last z x ∙ long;
        up = λ q. let a = r.up q in let b = set_up last z x (omega arith) q in omega arith;
        clock = λ q l. let a = r.clock q l in set_below last z x c' hi q (omega arith);
        absent = λ q l h. get_or-set_other last z q x 0 (λ e. omega arith) ∙ r.absent q l h;
        sum = let b = sum_set last z x 16 (omega arith) (omega arith) lo in omega arith;
      }
