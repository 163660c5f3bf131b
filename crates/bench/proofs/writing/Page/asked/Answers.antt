-- By cases. Assumes nothing.
use mathlib.Core.Path.{ap, sym}
use Rattle.bench.proofs.Pages.{spelled}
use Rattle.bench.specs.Text.{shown}
use Rattle.bench.proofs.writing.Page.asked.Goals as goal

pub returns-in-Some : goal.returns-in-Some
unfolding shown
returns-in-Some c = spelled (ap shown (sym c.in-Some.is)) c.command.ensures

pub returns-in-None : goal.returns-in-None
unfolding shown
returns-in-None c = spelled (ap shown (sym c.in-None.is)) c.byte.ensures
