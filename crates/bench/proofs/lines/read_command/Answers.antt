-- What is read of the line, if it is in range. Assumes nothing.
use Rattle.std.proofs.Common.{rules, ◌≡◌, ap, ◌∙◌}
use Rattle.std.specs.Prelude.{option_and_then}
use Rattle.std.specs.Bool.{then_some}
use Rattle.bench.specs.Lines.{in_range_for, kept}
use Rattle.bench.specs.Inside.{parsed_command}
use Rattle.bench.proofs.Parsing.{command_read}
use Rattle.bench.proofs.lines.read_command.Goals as goal

pub returns : goal.returns
returns c =
    let e : c.filter.result ≡ option_and_then (λ x. then_some (in_range_for c.args.n x) x) c.parse_command.result = search rules in
    e ∙ command_read c.args.n (kept c.args.line.now) c.parse_command.result (c.parse_command.ensures ∙ ap parsed_command c.kept.ensures)
