use Rattle.std.proofs.Common.{◌≡◌, ◌≤◌, length, drop}
use Rattle.bench.specs.Bench.{feeding}
use Rattle.bench.proofs.Bench.feed.Given as goal

abbrev pub invariant-loop-used : goal.invariant-loop-used
invariant-loop-used l =
    (l.page.at ≤ length l.page.out.now)
    × (l.page.out.ghost_name ≡ l.initial.page.out.ghost_name)
    × (feeding l.self (drop l.used l.input) l.used l.page.at l.page.out.now ≡ feeding l.initial.self l.input 0 0 l.initial.page.out.now)
