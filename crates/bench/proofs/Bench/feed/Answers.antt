-- What is left gives the same as all. Assumes nothing.
use borrow.Author.Tests.{lt-ltb, le-ltb}
use Rattle.std.proofs.Common.{rules, ◌≡◌, ◌-◌, ◌||◌, Bool, true, refl, ltb, length, ap, sym, ◌∙◌, arith}
use Rattle.bench.specs.Bench.{is_over}
use Rattle.bench.proofs.Feeding.{feed_end, feed_stop, feed_on, feeds}
use Rattle.bench.proofs.Bench.feed.Goals as goal
use Rattle.bench.proofs.Bench.feed.Goals.{then-is_over-via-then-is_over, then-is_over-via-else-is_over+then-page-lt-ROOM}

pub returns-then-is_over : goal.returns-then-is_over
returns-then-is_over c =
    let w = c.loop-used in
    let full = ltb (length w.page.out.now - w.page.at) 64 in
    let over = sym c.is_over.ensures in
    let stops : is_over w.self || full ≡ true =
    elim c.then-is_over.branch [
      | then-is_over-via-then-is_over v ↦ ap (λ (t : Bool). t || full) (over ∙ v.if-is_over.true)
      | then-is_over-via-else-is_over+then-page-lt-ROOM v ↦
          ap (λ (t : Bool). t || full) (over ∙ v.if-is_over.false) ∙ lt-ltb (length w.page.out.now - w.page.at) 64 v.if-page-lt-ROOM.true
    ] in
    let same = sym w.invariant.1 in
    let e = sym (feed_stop c.args.input.now w.self w.used w.page c.loop-used-test.true stops) ∙ w.invariant.2 in
    feeds e refl c.is_over-then-is_over.ensures (search rules)

pub loop-used-preserved : goal.loop-used-preserved
loop-used-preserved c =
    let w = c.loop-used in
    let room = c.if-page-lt-ROOM.false in
    let goes = ap (λ (t : Bool). t || ltb (length w.page.out.now - w.page.at) 64) (sym c.is_over.ensures ∙ c.if-is_over.false) ∙ le-ltb (length w.page.out.now - w.page.at) 64 room in
    let s = c.step.ensures in
    let l = s.puts.long in
    (omega arith, s.same ∙ w.invariant.1, feed_on c.args.input.now w.self w.used w.page c.loop-used-test.true goes c.step.new.self s ∙ w.invariant.2)

pub returns : goal.returns
returns c =
    let w = c.loop-used in
    let n : length c.args.input.now ≡ w.used = omega arith in
    let same = sym w.invariant.1 in
    let e = sym (feed_end c.args.input.now w.self w.used w.page c.loop-used-test.false) ∙ w.invariant.2 in
    feeds e n c.is_over-2.ensures (search rules)
