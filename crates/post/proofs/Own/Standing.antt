-- How the own messages and the order number stand in each phase: the two rules on them as three cases. Assumes nothing.
use mathlib.Core.Path.{◌≡◌, refl, sym}
use mathlib.Core.Bool.{Bool, true, false, not, cond}
use mathlib.Core.List.{List}
use Prim.Native.Nat.{ℕ, ◌≤◌}
use native.Mathlib.Omega.{arith}
use borrow.Author.Tests.{ne_eqb, lt-leb}
use lib.Dec.{T, leb, eqb, leb→le, le→leb, eqb→eq}
use mir.Facts.{yes_and}
use Rattle.laws.specs.Lists.{many}
use Rattle.laws.proofs.Tests.{test, and_l, and_r, neqb→ne}
use Rattle.frame.specs.declared.Message.{Message}
use Rattle.frame.specs.Message.{own_take, own_return}
use Rattle.post.specs.declared.Post.{Post}
use Rattle.post.specs.Record.{waiting_of}
use Rattle.post.specs.Settle.{free}
use Rattle.post.specs.Sound.{end_kind, own_fits, own_few, order_fits}
use Rattle.post.proofs.Sound.Facts.{Sound}

-- phase, order number, settled takes; of the own that wait, takes, returns and the last kind
pub data Standing (phase order takes t r end : ℕ) : Type 0 where
  idle : phase ≡ 0 → order ≡ 0 → t ≡ 0 → r ≤ 1 → Standing phase order takes t r end
  asked : phase ≡ 1 → order ≡ 0 → t ≡ 1 → r ≤ 1 → end ≡ 1 → Standing phase order takes t r end
  numbered : 2 ≤ phase → phase ≤ 3 → 1 ≤ order → order ≤ takes → t ≡ 0 → r ≡ 0 → Standing phase order takes t r end

-- those of a list of waiting messages
abbrev pub Stands : ℕ → ℕ → ℕ → ℕ → List Message → Type 0
Stands own phase order takes ms = Standing phase order takes (many (own_take own) ms) (many (own_return own) ms) (end_kind own 0 ms)

-- a numbered take holds exactly if there is a place for it
abbrev pub Placed : ℕ → Bool → Type 0
Placed phase free = 2 ≤ phase → eqb phase 3 ≡ free

module _ (phase order takes t r end : ℕ) where
  pub stands_of : phase ≤ 3 → (free : Bool) → T (own_fits phase t r end) → T (order_fits phase order takes free) → Standing phase order takes t r end
  unfolding own_fits order_fits
  stands_of l free w o =
      test (eqb phase 0)
      (λ y0. let e = eqb→eq phase 0 y0 in
      let w0 = rw e at w in
      idle e (eqb→eq order 0 (rw e at o)) (eqb→eq t 0 (and_l (eqb t 0) _ w0)) (leb→le r 1 (and_r (eqb t 0) _ w0)))
      (λ n0. test (eqb phase 1)
      (λ y1. let e = eqb→eq phase 1 y1 in
      let w1 = rw e at w in
      let w2 = and_r (eqb t 1) _ w1 in
      asked e (eqb→eq order 0 (rw e at o)) (eqb→eq t 1 (and_l (eqb t 1) _ w1)) (leb→le r 1 (and_l (leb r 1) _ w2)) (eqb→eq end 1 (and_r (leb r 1) _ w2)))
      (λ n1. let d0 = neqb→ne phase 0 n0 in let d1 = neqb→ne phase 1 n1 in
      let w1 = rw (ne_eqb phase 0 d0, ne_eqb phase 1 d1) at w in
      let o1 = rw (lt-leb phase 1 (omega arith)) at o in
      let o2 = and_r (leb 1 order) _ o1 in
      numbered (omega arith) l (leb→le 1 order (and_l (leb 1 order) _ o1)) (leb→le order takes (and_l (leb order takes) _ o2))
      (eqb→eq t 0 (and_l (eqb t 0) _ w1)) (eqb→eq r 0 (and_r (eqb t 0) _ w1))))

  pub placed_of : (free : Bool) → T (order_fits phase order takes free) → Placed phase free
  unfolding order_fits
  placed_of free o l =
      let o1 = rw (lt-leb phase 1 l) at o in
      same (eqb phase 3) free (and_r (leb order takes) _ (and_r (leb 1 order) _ o1))
    where
      same : (a b : Bool) → T (cond a b (not b)) → a ≡ b
      same true true y = refl
      same true false y = absurd y
      same false true y = absurd y
      same false false y = refl

  pub own_fits_lem : Standing phase order takes t r end → T (own_fits phase t r end)
  unfolding own_fits
  own_fits_lem (idle e o a b) = rw (e, a) (le→leb r 1 b)
  own_fits_lem (asked e o a b c) = rw (e, a, c) (yes_and (leb r 1) _ (le→leb r 1 b) tt)
  own_fits_lem (numbered l h lo hi a b) = rw (ne_eqb phase 0 (λ e. omega arith), ne_eqb phase 1 (λ e. omega arith), a, b) tt

  pub order_fits_lem : (free : Bool) → Standing phase order takes t r end → Placed phase free → T (order_fits phase order takes free)
  unfolding order_fits
  order_fits_lem free (idle e o a b) p = rw (e, o) tt
  order_fits_lem free (asked e o a b c) p = rw (e, o) tt
  order_fits_lem free (numbered l h lo hi a b) p =
      rw (lt-leb phase 1 l, p l) (yes_and (leb 1 order) _ (le→leb 1 order lo) (yes_and (leb order takes) _ (le→leb order takes hi) (either free)))
    where
      either : (b : Bool) → T (cond b b (not b))
      either true = tt
      either false = tt

  pub phase_fits_lem : Standing phase order takes t r end → phase ≤ 3
  phase_fits_lem (idle e o a b) = omega arith
  phase_fits_lem (asked e o a b c) = omega arith
  phase_fits_lem (numbered l h lo hi a b) = h

  -- at most one of each
  pub own_most : Standing phase order takes t r end → (t ≤ 1) × (r ≤ 1)
  own_most (idle e o a b) = (omega arith, omega arith)
  own_most (asked e o a b c) = (omega arith, omega arith)
  own_most (numbered l h lo hi a b) = (omega arith, omega arith)

module _ (p : Post) (s : Sound p) where
  pub standing : Stands p.own p.phase p.order p.takes (waiting_of p)
  unfolding own_few
  standing = stands_of _ _ _ _ _ _ s.phase (free p) s.own_few_lem s.order

  -- a post that holds has its place
  pub held : p.phase ≡ 3 → T (free p)
  held e = let f = placed_of p.phase p.order p.takes 0 0 0 (free p) s.order (omega arith) in rw (sym f) (rw e tt)
