-- A table gives no number whose rows all fail, and what a table does not refuse is done. Assumes nothing.
use mathlib.Core.Path.{◌≡◌, sym}
use mathlib.Core.Logic.{⊎_elim}
use mathlib.Core.Bool.{Bool, not, ◌||◌}
use mathlib.Core.List.{List, [], ◌∷◌}
use Prim.Native.Nat.{ℕ}
use lib.Dec.{T, eqb, T_not, eqb→eq}
use Rattle.laws.specs.Ladder.{Row, refusal, unless}
use Rattle.laws.specs.Lists.{all}
use Rattle.laws.proofs.Tests.{cond_both, and_l, and_r, or_e, neqb→ne}

-- a row that does not give n
abbrev pub spares : ℕ → Row → Bool
spares n r = not (eqb r.number n) || not r.test

pub refusal-not : (n : ℕ) (rows : List Row) → (n ≡ 0 → ⊥) → T (all (spares n) rows) → refusal rows ≡ n → ⊥
unfolding all
refusal-not n [] d t = λ e. d (sym e)
refusal-not n (r ∷ rows) d t =
    cond_both (λ x. x ≡ n → ⊥) r.test r.number (refusal rows)
    (λ y e. ⊎_elim (λ z. neqb→ne r.number n z e) (λ z. T_not r.test z y) (or_e (not (eqb r.number n)) (not r.test) (and_l (spares n r) (all (spares n) rows) t)))
    (λ y. refusal-not n rows d (and_r (spares n r) (all (spares n) rows) t))

-- what holds of what is done, and of every refusal, holds of what comes of a table
pub unless_both : {A : Type 0} (P : A → Type 0) (rows : List Row) (refused : ℕ → A) (done : A) → (refusal rows ≡ 0 → P done)
    → ((n : ℕ) → T (not (eqb n 0)) → P (refused n)) → P (unless rows refused done)
unfolding unless
unless_both P rows refused done f g = cond_both P (eqb (refusal rows) 0) done (refused (refusal rows)) (λ y. f (eqb→eq (refusal rows) 0 y)) (g (refusal rows))
