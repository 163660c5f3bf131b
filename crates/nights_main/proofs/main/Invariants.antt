use Rattle.std.proofs.Common.{◌<◌}
use Rattle.nights_main.proofs.main.Given as goal

abbrev pub invariant-loop-i : goal.invariant-loop-i
invariant-loop-i l = l.same < l.i
