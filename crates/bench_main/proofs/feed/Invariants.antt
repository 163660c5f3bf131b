use Rattle.std.proofs.Common.{◌≤◌, length}
use Rattle.bench_main.proofs.feed.Given as goal

abbrev pub invariant-loop-rest : goal.invariant-loop-rest
invariant-loop-rest g l = 64 ≤ length l.out

abbrev pub decreases-loop-rest : goal.decreases-loop-rest
decreases-loop-rest g l = length l.rest
