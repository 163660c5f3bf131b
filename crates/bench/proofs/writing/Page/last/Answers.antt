-- The three words, the three numbers and the LF are one text. Assumes nothing.
use mathlib.Core.Path.{ap}
use Rattle.bench.specs.Text.{decimal, last_line}
use Rattle.bench.proofs.Pages.{then, spelled}
use Rattle.bench.proofs.writing.Page.last.Goals as goal

pub returns : goal.returns
unfolding last_line
returns c =
    then c.word.ensures
    (then (spelled (ap decimal c.from.ensures) c.number.ensures)
    (then c.word-2.ensures
    (then (spelled (ap decimal c.from-2.ensures) c.number-2.ensures)
    (then c.word-3.ensures
    (then (spelled (ap decimal c.from-3.ensures) c.number-3.ensures) c.byte.ensures)))))
