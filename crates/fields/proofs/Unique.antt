-- Each promise is an equation with a definition. Assumes nothing.
use Rattle.laws.proofs.OneLaws.{one}
use Rattle.fields.specs.Field.{field_at, with_field}
use Rattle.fields.specs.Unique.{Unique}

pub unique : Unique
unique = record { load = λ s at width. one (field_at s at width); store = λ s at width n. one (with_field s at width n) }
