-- For the public function: two results that meet its promise are equal.
use Rattle.std.specs.Prelude.{◌≡◌}
use Rattle.laws.specs.One.{One}
use Rattle.frame.specs.{Kind.{kind_number}, Refusal.{number}}
use Rattle.calls.specs.{declared.Own.{Own}, declared.OwnRow.{OwnRow}, Own.{row_of}}

pub record Unique : Type 0 where
  pub row : (o : Own) → One OwnRow (λ r. (kind_number r.kind ≡ (row_of o).kind) × (r.from ≡ (row_of o).from) × (number r.other ≡ (row_of o).other) × (r.to ≡ (row_of o).to))
