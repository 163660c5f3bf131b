-- What is written fits the buffer. Assumes nothing.
use Rattle.std.proofs.Common.{sym}
use lib.Seq.{length-take-le}
use Rattle.bench.proofs.Fits.{ended_fits}
use Rattle.bench_main.proofs.finish.Goals as goal

pub slice_bounds-out-end : goal.slice_bounds-out-end
slice_bounds-out-end g c = ended_fits _ _ _ _ c.finish.ensures _ c.in-Some.is

pub slice_bounds-write_all-end : goal.slice_bounds-write_all-end
slice_bounds-write_all-end g c = sym (length-take-le _ _ (ended_fits _ _ _ _ c.finish.ensures _ c.in-Some.is))
