-- Three digits are enough for a number below 1000, and twenty give the same. Assumes nothing.
use mathlib.Core.Path.{refl}
use native.Mathlib.Omega.{arith}
use Rattle.text.proofs.Digits.{digits_enough}
use Rattle.text.proofs.Putting.{lays, reworded}
use Rattle.bench.proofs.writing.Page.number.Goals as goal

pub returns : goal.returns
returns c = record { lays = reworded (digits_enough 19 2 _ (omega arith) (omega arith)) (lays c.number-self.ensures); same = refl }
