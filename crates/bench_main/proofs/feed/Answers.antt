-- Each feed uses a byte, and what is written fits the buffer. Assumes nothing.
use native.Mathlib.Nat.{min-le_left}
use Rattle.std.proofs.Common.{◌-◌, ◌<◌, length, drop, sym, arith, rules}
use lib.ListN.{length-take}
use lib.Seq.{length-take-le}
use Rattle.bench.proofs.Fits.{fed_fits, fed_on}
use Rattle.bench_main.proofs.feed.Goals as goal

pub slice_bounds-write_all-end : goal.slice_bounds-write_all-end
slice_bounds-write_all-end g c =
    let f = fed_fits _ _ _ _ _ _ c.feed-f.ensures in
    let w = f.1 in
    let l = f.2 in
    omega arith

pub slice_bounds-write_all-end-in-loop-rest : goal.slice_bounds-write_all-end-in-loop-rest
slice_bounds-write_all-end-in-loop-rest g c =
    let f = fed_fits _ _ _ _ _ _ c.feed-f.ensures in
    let w = f.1 in
    let l = f.2 in
    sym (length-take-le c.feed-f.result.written c.feed-f.new.out (omega arith))

pub slice_bounds-rest-count : goal.slice_bounds-rest-count
slice_bounds-rest-count g c = (fed_fits _ _ _ _ _ _ c.feed-f.ensures).0

pub slice_bounds-rest-start : goal.slice_bounds-rest-start
slice_bounds-rest-start g c = (fed_fits _ _ _ _ _ _ c.feed-f.ensures).0

pub loop-rest-smaller : goal.loop-rest-smaller
loop-rest-smaller g c =
    let rest = c.loop-rest.rest.now in
    let some : 0 < length rest = search rules in
    let used = c.feed-f.result.used in
    let f = fed_on _ _ _ _ _ _ c.feed-f.ensures c.if-f.false some (omega arith) in
    let l = length-take (length rest - used) (drop used rest) in
    let m = min-le_left (length rest - used) (length (drop used rest)) in
    omega arith
