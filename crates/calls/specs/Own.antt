-- The own calls, by which a post sends a message: a row each.
use Rattle.std.specs.Prelude.{ℕ}
use Rattle.frame.specs.Message.{take_kind, return_kind}
use Rattle.calls.specs.declared.Own.{Own}
use Rattle.calls.specs.declared.Own.TheVariants.{Taking, Returning}

-- the kind of the message; the phase in which the call is made, and the number in another; the phase that it leads to
pub record RowTold : Type 0 where
  pub kind : ℕ
  pub from : ℕ
  pub other : ℕ
  pub to : ℕ

abbrev pub row_of : Own → RowTold
row_of Taking = record { kind = take_kind; from = 0; other = 13; to = 1 }
row_of Returning = record { kind = return_kind; from = 3; other = 14; to = 0 }
