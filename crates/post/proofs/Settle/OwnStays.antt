-- Settling keeps the standing of the own messages: a take that goes is numbered, and granted where there is a place for it. Assumes nothing.
use mathlib.Core.Path.{◌≡◌, refl, sym, ap, ◌∙◌}
use mathlib.Core.Logic.{⊎_elim}
use mathlib.Core.Bool.{Bool, true, false, cond}
use mathlib.Core.List.{List, ◌++◌}
use Prim.Native.Nat.{ℕ, ◌+◌, ◌≤◌}
use native.Mathlib.Omega.{arith}
use borrow.Author.Tests.{ne_eqb}
use lib.Dec.{T, eqb, eqb→eq}
use lib.Ieee.Bits.{is_true}
use mir.Facts.{yes_and}
use Rattle.laws.specs.Lists.{many}
use Rattle.laws.proofs.Tests.{test, and_l, neqb→ne}
use Rattle.laws.proofs.CountLaws.{many-append, many_none, none_passes, some_passes}
use Rattle.frame.specs.declared.Message.{Message}
use Rattle.frame.specs.Message.{is_take, by, own_take, own_return}
use Rattle.post.specs.Settle.{own_number, phase_after}
use Rattle.post.specs.Sound.{end_kind}
use Rattle.post.proofs.Own.Standing.{idle, asked, numbered, Stands, Placed}
use Rattle.post.proofs.Own.Messages.{own_number_none, own_number_some, own_number_most, end_kind-append, end_kind_which}

-- the phase of a numbered take
module _ (phase order : ℕ) (free : Bool) where
  after-number : (phase ≡ 0 → ⊥) → 1 ≤ order → (2 ≤ phase_after phase order free) × (phase_after phase order free ≤ 3)
  unfolding phase_after
  after-number d lo = rw (ne_eqb phase 0 d, ne_eqb order 0 (λ e. omega arith)) (go (eqb phase 3) free)
    where
      go : (a b : Bool) → (2 ≤ cond a 3 (cond b 3 2)) × (cond a 3 (cond b 3 2) ≤ 3)
      go true b = (omega arith, omega arith)
      go false true = (omega arith, omega arith)
      go false false = (omega arith, omega arith)

  -- it holds exactly if there is a place, where it held before only with one
  pub placed_on : (phase ≡ 3 → T free) → Placed (phase_after phase order free) free
  unfolding phase_after
  placed_on h = go (eqb phase 0) (eqb phase 3) (eqb order 0) free (λ y. h (eqb→eq phase 3 y))
    where
      go : (a b c f : Bool) → (T b → T f) → Placed (cond a 0 (cond b 3 (cond c 1 (cond f 3 2)))) f
      go true b c f h l = absurd (omega arith)
      go false true c f h l = sym (is_true f (h tt))
      go false false true f h l = absurd (omega arith)
      go false false false true h l = refl
      go false false false false h l = refl

module _ (own : ℕ) (gone left : List Message) where
  -- the last own message of all is a take: in the rest too, or none of its own is there
  end_left : end_kind own 0 (gone ++ left) ≡ 1 → 1 ≤ many (own_take own) left → end_kind own 0 left ≡ 1
  end_left e h =
      let w = some_passes (own_take own) left h in
      ⊎_elim
      (λ n. absurd (n.1 w.0 w.1 (and_l (by own w.0) _ w.2)))
      (λ l. l.3 0 ∙ sym (l.3 (end_kind own 0 gone)) ∙ sym (end_kind-append own 0 gone left) ∙ e)
      (end_kind_which own left)

  none_left : end_kind own 0 (gone ++ left) ≡ 1 → many (own_take own) left ≡ 0 → many (own_return own) left ≡ 0
  none_left e z =
      many_none (own_return own) left (λ m i o.
      ⊎_elim
      (λ n. n.1 m i (and_l (by own m) _ o))
      (λ l. none_passes (own_take own) left z l.0 l.1 (yes_and (by own l.0) _ l.2
      (rw (sym (l.3 (end_kind own 0 gone)) ∙ sym (end_kind-append own 0 gone left) ∙ e) tt)))
      (end_kind_which own left))

  pub stands_on : (phase order takes : ℕ) (free : Bool) → Stands own phase order takes (gone ++ left)
      → let o = cond (eqb phase 1) (own_number own takes gone) order in
      Stands own (phase_after phase o free) o (takes + many is_take gone) left
  stands_on phase order takes free (idle e z a b) =
      let s = many-append (own_take own) gone left in
      let u = many-append (own_return own) gone left in
      idle (unfold phase_after in rw e) (rw e z) (omega arith) (omega arith)
  stands_on phase order takes free (asked e z a b c) =
      let s = many-append (own_take own) gone left in
      let u = many-append (own_return own) gone left in
      let number : cond (eqb phase 1) (own_number own takes gone) order ≡ own_number own takes gone = rw e in
      test (eqb (many (own_take own) gone) 0)
      (λ y. let n = eqb→eq (many (own_take own) gone) 0 y in
      let o = number ∙ own_number_none own takes gone (λ m i t. none_passes (own_take own) gone n m i t) in
      asked (ap (λ (x : ℕ). phase_after phase x free) o ∙ unfold phase_after in rw e) o (omega arith) (omega arith) (end_left c (omega arith)))
      (λ y. let n = neqb→ne (many (own_take own) gone) 0 y in
      let w = some_passes (own_take own) gone (omega arith) in
      let lo = own_number_some own takes gone w.0 w.1 w.2 in
      let hi = own_number_most own takes gone in
      let t : many (own_take own) left ≡ 0 = omega arith in
      let p = after-number phase (cond (eqb phase 1) (own_number own takes gone) order) free (λ d. omega arith) (omega arith) in
      numbered p.0 p.1 (omega arith) (omega arith) t (none_left c t))
  stands_on phase order takes free (numbered l h lo hi a b) =
      let s = many-append (own_take own) gone left in
      let u = many-append (own_return own) gone left in
      let o : cond (eqb phase 1) (own_number own takes gone) order ≡ order = rw (ne_eqb phase 1 (λ e. omega arith)) in
      let p = after-number phase (cond (eqb phase 1) (own_number own takes gone) order) free (λ d. omega arith) (omega arith) in
      numbered p.0 p.1 (omega arith) (omega arith) (omega arith) (omega arith)
