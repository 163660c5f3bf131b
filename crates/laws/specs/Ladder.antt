-- A table of refusals: rows of a number and a test, looked through from the top.
use Rattle.std.specs.Prelude.{ℕ, Bool, true, cond, ◌&&◌, List, [], ◌∷◌, eqb}

pub record Row : Type 0 where
  pub number : ℕ
  pub test : Bool

-- the number n where the test t passes
infix 70 ◌when◌
abbrev pub ◌when◌ : ℕ → Bool → Row
n when t = record { number = n; test = t }

-- the number of the first row whose test passes; 0 where none does
abbrev pub refusal : List Row → ℕ
refusal [] = 0
refusal (r ∷ rs) = cond r.test r.number (refusal rs)

-- what is done where no row refuses; else what becomes of that number
unfoldable pub unless : {A : Type 0} → List Row → (ℕ → A) → A → A
unless rows refused done = cond (eqb (refusal rows) 0) done (refused (refusal rows))

-- every test of a row passes
abbrev pub every : List Bool → Bool
every [] = true
every (t ∷ ts) = t && every ts
