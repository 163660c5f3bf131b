-- For each public function: two results that meet its promise are equal, and so are the lent bytes after them.
use Rattle.std.specs.Prelude.{List, [], ◌∷◌, ℕ}
use Rattle.laws.specs.One.{OneAfter}
use Rattle.text.specs.{Decimal.{decimal}, Puts.{Puts, fitting}}

pub record Unique : Type 0 where
  pub byte : (old : List ℕ) (at b : ℕ) → OneAfter ℕ (λ r after. Puts old after at (fitting old at (b ∷ [])) r)
  pub word : (old w : List ℕ) (at : ℕ) → OneAfter ℕ (λ r after. Puts old after at (fitting old at w) r)
  pub number : (old : List ℕ) (at n : ℕ) → OneAfter ℕ (λ r after. Puts old after at (fitting old at (decimal n)) r)
