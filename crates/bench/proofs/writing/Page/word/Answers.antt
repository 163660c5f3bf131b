use mathlib.Core.Path.{refl}
use Rattle.text.proofs.Putting.{lays}
use Rattle.bench.proofs.writing.Page.word.Goals as goal

pub returns : goal.returns
returns c = record { lays = lays c.word-self.ensures; same = refl }
