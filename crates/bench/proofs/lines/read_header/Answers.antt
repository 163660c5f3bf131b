-- What is read of the line, if it is in range. Assumes nothing.
use Rattle.std.proofs.Common.{rules, ◌≡◌, ap, ◌∙◌}
use Rattle.std.specs.Prelude.{option_and_then}
use Rattle.std.specs.Bool.{then_some}
use Rattle.bench.specs.Lines.{kept}
use Rattle.bench.specs.Inside.{parsed_header, header_fits}
use Rattle.bench.proofs.Parsing.{header_read}
use Rattle.bench.proofs.lines.read_header.Goals as goal

pub returns : goal.returns
returns c =
    let e : c.filter.result ≡ option_and_then (λ x. then_some (header_fits x) x) c.parse_header.result = search rules in
    e ∙ header_read (kept c.args.line.now) c.parse_header.result (c.parse_header.ensures ∙ ap parsed_header c.kept.ensures)
