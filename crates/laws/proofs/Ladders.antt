-- A case of a definition by tests, from what the code's tests say: rules for `search`. And what a table's 0 says. Assumes nothing.
use Prim.Native.Nat.{ℕ, ◌≤◌, ◌<◌}
use native.Mathlib.Omega.{arith}
use mathlib.Core.List.{List, [], ◌∷◌, ◌++◌}
use lib.Dec.{T, ltb, leb, ltb→lt, leb→le, le→leb}
use Rattle.laws.proofs.Tests.{and_l, and_r, same_test}
use Rattle.laws.specs.Ladder.{Row, refusal}
use mathlib.Core.Path.{◌≡◌, refl, ap, ◌∙◌, sym}
use mathlib.Core.Bool.{Bool, true, false, cond, not, ◌&&◌, ◌||◌}
use borrow.Author.Tests.{lt-ltb, le-ltb, le-leb, lt-leb, eq-eqb, ne_eqb}

module _ {A : Type 0} {r : A} where
  pub on : (t : Bool) (x y : A) → t ≡ true → r ≡ x → r ≡ cond t x y
  on t x y e p = p ∙ ap (λ (b : Bool). cond b x y) (sym e)

  pub off : (t : Bool) (x y : A) → t ≡ false → r ≡ y → r ≡ cond t x y
  off t x y e p = p ∙ ap (λ (b : Bool). cond b x y) (sym e)

pub not_on : (t : Bool) → t ≡ false → not t ≡ true
not_on t e = ap not e

pub not_off : (t : Bool) → t ≡ true → not t ≡ false
not_off t e = ap not e

pub both_on : (s t : Bool) → s ≡ true → t ≡ true → s && t ≡ true
both_on s t p q = rw p q

pub one_off : (s t : Bool) → s ≡ false → s && t ≡ false
one_off s t p = rw p

pub two_off : (s t : Bool) → t ≡ false → s && t ≡ false
two_off true t q = q
two_off false t q = refl

pub one_on : (s t : Bool) → s ≡ true → s || t ≡ true
one_on s t p = rw p

pub two_on : (s t : Bool) → t ≡ true → s || t ≡ true
two_on true t q = refl
two_on false t q = q

pub both_off : (s t : Bool) → s ≡ false → t ≡ false → s || t ≡ false
both_off s t p q = rw p q

module _ {r : Bool} where
  pub and_first : (s t : Bool) → s ≡ true → r ≡ t → r ≡ s && t
  and_first s t p q = q ∙ sym (rw p)

  pub and_fails : (s t : Bool) → s ≡ false → r ≡ false → r ≡ s && t
  and_fails s t p q = q ∙ sym (one_off s t p)

  pub or_passes : (s t : Bool) → s ≡ true → r ≡ true → r ≡ s || t
  or_passes s t p q = q ∙ sym (one_on s t p)

  pub or-after : (s t : Bool) → s ≡ false → r ≡ t → r ≡ s || t
  or-after s t p q = q ∙ sym (rw p)

pub ruleset picks = (on, off, not_on, not_off, both_on, one_off, two_off, one_on, two_on, both_off, lt-ltb, le-ltb, le-leb, lt-leb, eq-eqb, ne_eqb)

-- a test by its first parts, as a function that returns one goes
pub ruleset tests = (and_first, and_fails, or_passes, or-after, lt-ltb, le-ltb, le-leb, lt-leb, eq-eqb, ne_eqb)

-- no test of the rows passes
abbrev pub Quiet : List Row → Type 0
Quiet [] = Unit
Quiet (r ∷ rows) = (r.test ≡ false) × Quiet rows

-- no row has the number 0
abbrev pub numbered : List Row → Bool
numbered [] = true
numbered (r ∷ rows) = ltb 0 r.number && numbered rows

first_quiet : (r : Row) (rows : List Row) → 0 < r.number → refusal (r ∷ rows) ≡ 0 → (r.test ≡ false) × (refusal rows ≡ 0)
first_quiet r rows l = go r.test refl
  where
    go : (t : Bool) → r.test ≡ t → cond t r.number (refusal rows) ≡ 0 → (r.test ≡ false) × (refusal rows ≡ 0)
    go true p e = absurd (omega arith)
    go false p e = (p, e)

-- a table gives 0 exactly where no test passes
pub quiet : (rows : List Row) → T (numbered rows) → refusal rows ≡ 0 → Quiet rows
quiet [] n e = tt
quiet (r ∷ rows) n e =
    let h = first_quiet r rows (ltb→lt 0 r.number (and_l (ltb 0 r.number) (numbered rows) n)) e in
    (h.0, quiet rows (and_r (ltb 0 r.number) (numbered rows) n) h.1)

pub unrefused : (rows : List Row) → Quiet rows → refusal rows ≡ 0
unrefused [] q = refl
unrefused (r ∷ rows) q = rw q.0 (unrefused rows q.1)

-- two orders that say the same
pub same-leb : (a b c d : ℕ) → (a ≤ b → c ≤ d) → (c ≤ d → a ≤ b) → leb a b ≡ leb c d
same-leb a b c d f g = same_test (leb a b) (leb c d) (λ t. le→leb c d (f (leb→le a b t))) (λ t. le→leb a b (g (leb→le c d t)))

-- two tables one after the other: the first refuses, or the second is left
pub first_refuses : (xs ys : List Row) → (refusal xs ≡ 0 → ⊥) → refusal xs ≡ refusal (xs ++ ys)
first_refuses [] ys n = absurd (n refl)
first_refuses (r ∷ xs) ys n = go r.test n (first_refuses xs ys)
  where
    go : (t : Bool) → (cond t r.number (refusal xs) ≡ 0 → ⊥) → ((refusal xs ≡ 0 → ⊥) → refusal xs ≡ refusal (xs ++ ys))
        → cond t r.number (refusal xs) ≡ cond t r.number (refusal (xs ++ ys))
    go true n f = refl
    go false n f = f n

pub first_passes : (xs ys : List Row) → Quiet xs → refusal ys ≡ refusal (xs ++ ys)
first_passes [] ys q = refl
first_passes (r ∷ xs) ys q = first_passes xs ys q.1 ∙ ap (λ (b : Bool). cond b r.number (refusal (xs ++ ys))) (sym q.0)
