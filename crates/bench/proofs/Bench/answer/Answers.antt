-- What the command did, and its line. Assumes nothing.
use Rattle.std.proofs.Common.{sym, subst}
use Rattle.bench.specs.Inside.{Safe}
use Rattle.bench.proofs.Parsing.{command_safe}
use Rattle.bench.proofs.Turning.{answers_turn}
use Rattle.bench.proofs.Bench.answer.Goals as goal

pub run-outcome-requires : goal.run-outcome-requires
run-outcome-requires c = subst Safe (sym c.read_command-c.ensures) (command_safe _ _)

pub returns : goal.returns
returns c =
    let e = c.read_command-c.ensures in
    answers_turn c.args.self.now c.read_command-c.result c.run-outcome.new.self c.run-outcome.result e c.run-outcome.ensures _ c.empty-self.ensures c.requires.0 c.answer.ensures
