-- What the test that a field lies in n bytes says of its place. Assumes nothing.
use Prim.Native.Nat.{ℕ, ◌+◌, ◌≤◌}
use lib.Dec.{T, leb, leb→le}
use Rattle.laws.proofs.Tests.{and_l, and_r}
use Rattle.fields.specs.Field.{lies}

pub inside : (n at width : ℕ) → T (lies n at width) → (width ≤ 8) × (at + width ≤ n)
inside n at width t =
    let narrow = leb width 8 in
    let ends = leb (at + width) n in
    (leb→le width 8 (and_l narrow ends t), leb→le (at + width) n (and_r narrow ends t))
