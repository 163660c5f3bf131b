-- The part of a line that is left is a line, and then the last line is written. Assumes nothing.
use Rattle.std.proofs.Common.{rules, refl, sym, ◌∙◌}
use Rattle.bench.proofs.Feeding.{no_room, was_over, ends_over, ends_on}
use Rattle.bench.proofs.Bench.finish.Goals as goal

pub returns-then-out-lt-ROOM : goal.returns-then-out-lt-ROOM
returns-then-out-lt-ROOM c = no_room c.args.self c.args.out.now c.if-out-lt-ROOM.true

pub returns-then-is_over : goal.returns-then-is_over
returns-then-is_over c = was_over c.args.self c.args.out.now c.if-out-lt-ROOM.false (sym c.is_over.ensures ∙ c.if-is_over.true)

pub returns-then-self-ne1 : goal.returns-then-self-ne1
returns-then-self-ne1 c =
    let u = c.last_piece.ensures in
    let same = sym u.same in
    ends_over c.args.self c.if-out-lt-ROOM.false refl (sym c.is_over.ensures ∙ c.if-is_over.false) c.last_piece.new.self u c.if-self-ne1.true (search rules)

pub returns : goal.returns
returns c =
    let u = c.last_piece.ensures in
    let w = c.last_line.ensures in
    let same = sym (w.same ∙ u.same) in
    ends_on c.args.self c.if-out-lt-ROOM.false refl (sym c.is_over.ensures ∙ c.if-is_over.false) c.last_piece.new.self u c.if-self-ne1.false w (search rules)
