-- For each public function: two results that meet its promise are equal.
use Rattle.std.specs.Prelude.{List, ◌≡◌, ℕ}
use Rattle.laws.specs.One.{One}
use Rattle.fields.specs.Field.{field_at, with_field}

pub record Unique : Type 0 where
  pub load : (s : List ℕ) (at width : ℕ) → One ℕ (λ r. r ≡ field_at s at width)
  pub store : (s : List ℕ) (at width n : ℕ) → One (List ℕ) (λ after. after ≡ with_field s at width n)
