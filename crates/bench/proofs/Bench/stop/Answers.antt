-- The answer to line 257 and the last line are one text, of at most 52 bytes. Assumes nothing.
use Rattle.std.proofs.Common.{refl, arith}
use Rattle.bench.specs.Bench.{stops}
use Rattle.bench.proofs.Pages.{then}
use Rattle.bench.proofs.Running.{stops-few}
use Rattle.bench.proofs.Bench.stop.Goals as goal

pub returns : goal.returns
unfolding stops
returns c =
    let f = (stops-few c.args.self.now).0 in
    let w = then c.answer.ensures c.last_line.ensures in
    let p = w.lays.puts (omega arith) in
    record { bench = refl; puts = p; same = w.same; few = (let n = p.next_place in omega arith); going = λ e. absurd (omega arith) }
