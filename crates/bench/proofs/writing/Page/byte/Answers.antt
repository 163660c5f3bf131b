use mathlib.Core.Path.{refl}
use Rattle.text.proofs.Putting.{lays}
use Rattle.bench.proofs.writing.Page.byte.Goals as goal

pub returns : goal.returns
returns c = record { lays = lays c.byte-self.ensures; same = refl }
