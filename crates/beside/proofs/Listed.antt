-- A list of the values of a function, by number: its length, a value, and one value replaced. Assumes nothing.
use mathlib.Core.Path.{◌≡◌, refl, sym, ap, ◌∙◌, subst}
use Prim.Native.Nat.{ℕ, zero, suc, ◌+◌, ◌<◌}
use native.Mathlib.Omega.{arith}
use lib.Dec.{eqb, eqb→eq}
use lib.ListN.{length, get_or, set, length-set}
use lib.Seq.{ext_get_or, get_or-set_same, get_or-set_other}
use Rattle.laws.proofs.Tests.{test, neqb→ne}
use Rattle.beside.specs.Image.{list_from}

pub length-list_from : (i n : ℕ) (f : ℕ → ℕ) → length (list_from i n f) ≡ n
unfolding list_from
length-list_from i zero f = refl
length-list_from i (suc n) f = ap suc (length-list_from (suc i) n f)

from_at : (i n : ℕ) (f : ℕ → ℕ) (k : ℕ) → k < n → get_or (list_from i n f) k 0 ≡ f (i + k)
unfolding list_from
from_at i zero f k h = absurd (omega arith)
from_at i (suc n) f zero h = ap f (let e : i ≡ i + 0 = omega arith in e)
from_at i (suc n) f (suc k) h = from_at (suc i) n f k (omega arith) ∙ ap f (let e : suc i + k ≡ i + suc k = omega arith in e)

pub list_from_at : (n : ℕ) (f : ℕ → ℕ) (k : ℕ) → k < n → get_or (list_from 0 n f) k 0 ≡ f k
list_from_at n f k h = from_at 0 n f k h ∙ ap f (let e : 0 + k ≡ k = omega arith in e)

-- at s the new value, elsewhere the old
pub set-list_from : (n : ℕ) (f g : ℕ → ℕ) (s c : ℕ) → s < n → g s ≡ c → ((r : ℕ) → r < n → (r ≡ s → ⊥) → g r ≡ f r)
    → set (list_from 0 n f) s c ≡ list_from 0 n g
set-list_from n f g s c l e h =
    let old = list_from 0 n f in
    let new = list_from 0 n g in
    let a = length-set old s c in
    let b = length-list_from 0 n f in
    ext_get_or 0 (set old s c) new (a ∙ b ∙ sym (length-list_from 0 n g)) (λ k z.
    let lk : k < n = omega arith in
    test (eqb k s)
    (λ y.
    subst (λ (x : ℕ). get_or (set old s c) x 0 ≡ get_or new x 0) (sym (eqb→eq k s y))
    (get_or-set_same old s c 0 (omega arith) ∙ sym e ∙ sym (list_from_at n g s l)))
    (λ y. let d = neqb→ne k s y in get_or-set_other old s k c 0 d ∙ list_from_at n f k lk ∙ sym (h k lk d) ∙ sym (list_from_at n g k lk)))
