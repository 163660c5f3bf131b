-- Tests: a case split that keeps what the test came to, and what `&&`, `||` and `not` say. Assumes nothing.
use mathlib.Core.Path.{◌≡◌, refl}
use mathlib.Core.Logic.{◌⊎◌, inl, inr}
use mathlib.Core.Bool.{Bool, true, false, not, cond, ◌&&◌, ◌||◌, true≢false}
use Prim.Native.Nat.{ℕ, ◌≤◌, ◌<◌}
use lib.Dec.{T, leb, eqb, T_not, leb→le, nleb→lt, eqb_refl}

pub test {ℓ} : {C : Type ℓ} (b : Bool) → (T b → C) → (T (not b) → C) → C
test true f g = f tt
test false f g = g tt

-- a statement on what a test picks
pub cond_both {ℓ} : {A : Type 0} (P : A → Type ℓ) (b : Bool) (x y : A) → (T b → P x) → (T (not b) → P y) → P (cond b x y)
cond_both P true x y f g = f tt
cond_both P false x y f g = g tt

pub and_l : (a b : Bool) → T (a && b) → T a
and_l true b t = tt
and_l false b t = t

pub and_r : (a b : Bool) → T (a && b) → T b
and_r true b t = t
and_r false b t = absurd t

pub or_l : (a b : Bool) → T a → T (a || b)
or_l true b t = tt
or_l false b t = absurd t

pub or_e : (a b : Bool) → T (a || b) → T a ⊎ T b
or_e true b t = inl tt
or_e false b t = inr t

pub or_r : (a b : Bool) → T b → T (a || b)
or_r true b t = tt
or_r false b t = t

pub or_off : (a b : Bool) → a || b ≡ false → (a ≡ false) × (b ≡ false)
or_off true b e = absurd (true≢false e)
or_off false b e = (refl, e)

-- two tests, each of which passes where the other does
pub same_test : (a b : Bool) → (T a → T b) → (T b → T a) → a ≡ b
same_test true true f g = refl
same_test true false f g = absurd (f tt)
same_test false true f g = absurd (g tt)
same_test false false f g = refl

pub neqb→ne : (m n : ℕ) → T (not (eqb m n)) → m ≡ n → ⊥
neqb→ne m n t e = T_not (eqb m n) t (rw e (eqb_refl n))

pub leb-total : (m n : ℕ) → (m ≤ n) ⊎ (n < m)
leb-total m n = test (leb m n) (λ y. inl (leb→le m n y)) (λ y. inr (nleb→lt m n y))
