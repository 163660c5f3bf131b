-- By cases. Assumes nothing.
use mathlib.Core.Path.{ap, sym}
use Rattle.bench.proofs.Pages.{then, spelled}
use Rattle.bench.specs.Text.{decimal, text}
use Rattle.bench.proofs.writing.Page.command.Goals as goal

pub returns-in-Take : goal.returns-in-Take
unfolding text
returns-in-Take c = spelled (ap text (sym c.in-Take.is)) c.lettered.ensures

pub returns-in-Return : goal.returns-in-Return
unfolding text
returns-in-Return c = spelled (ap text (sym c.in-Return.is)) c.lettered-in-Return.ensures

pub returns-in-Deliver : goal.returns-in-Deliver
unfolding text
returns-in-Deliver c =
    spelled (ap text (sym c.in-Deliver.is)) (then c.lettered-in-Deliver.ensures (then c.byte.ensures (spelled (ap decimal c.from.ensures) c.number.ensures)))
