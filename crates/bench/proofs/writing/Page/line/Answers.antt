-- The parts are one text, with the mark in its place. Assumes nothing.
use Rattle.std.proofs.Common.{◌≡◌, ap, cond, [], ◌∷◌}
use Rattle.bench.specs.Text.{decimal, answer_line}
use Rattle.bench.proofs.Pages.{then, spelled}
use Rattle.bench.proofs.writing.Page.line.Goals as goal
use Rattle.bench.proofs.writing.Page.line.Goals.{then-granted, else-granted}

pub returns : goal.returns
unfolding answer_line
returns c =
    let mark : c.if-granted.byte ≡ cond c.args.granted 71 45 =
    elim c.if-granted.branch [ then-granted w ↦ rw w.if-granted.true w.byte-is | else-granted w ↦ rw w.if-granted.false w.byte-is ]
    in
    then (spelled (ap decimal c.from.ensures) c.number.ensures)
    (then c.byte.ensures
    (then c.asked.ensures
    (then c.byte-2.ensures
    (then (spelled (ap decimal c.from-2.ensures) c.number-2.ensures)
    (then c.byte-3.ensures (then (spelled (λ i. mark i ∷ []) c.byte-4.ensures) c.byte-5.ensures))))))
