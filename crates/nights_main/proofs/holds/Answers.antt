-- Every byte of the output is compared with what is stored, in order. Assumes nothing.
use mathlib.Core.Logic.{◌⊎◌, inl, inr}
use Rattle.std.proofs.Common.{◌≡◌, ◌≤◌, ◌++◌, true, length, take, drop, sym, ◌∙◌}
use borrow.Author.Tests.{not-false}
use Rattle.std.proofs.lemmas.List.{take-append-drop}
use Rattle.std.specs.Cmp.Lexicographic.{same_text}
use native.Mathlib.Omega.{arith}
use lib.Seq.{length-take-le}
use Rattle.bench.proofs.Fits.{ended_fits}
use Rattle.nights_main.proofs.Holding.{feed_short, held}
use Rattle.nights_main.proofs.holds.Goals as goal
use Rattle.nights_main.proofs.holds.Goals.{else-not-f-via-then-not-f+else-f-input, else-not-f-via-else-not-f}

pub slice_bounds-out-end : goal.slice_bounds-out-end
slice_bounds-out-end c = feed_short _ _ _ _ _ _ c.feed-f.ensures

pub slice_bounds-strip_prefix-end : goal.slice_bounds-strip_prefix-end
slice_bounds-strip_prefix-end c = sym (length-take-le _ _ (feed_short _ _ _ _ _ _ c.feed-f.ensures))

pub slice_bounds-end-end : goal.slice_bounds-end-end
slice_bounds-end-end c = ended_fits _ _ _ _ c.finish.ensures _ c.in-Some.is

pub slice_bounds-eq-end : goal.slice_bounds-eq-end
slice_bounds-eq-end c = sym (length-take-le _ _ (ended_fits _ _ _ _ c.finish.ensures _ c.in-Some.is))

pub returns : goal.returns
returns c = λ e.
    let all : (c.feed-f.result.over ≡ true) ⊎ (length c.args.input.now ≤ c.feed-f.result.used) =
    elim c.else-not-f.branch [
      | else-not-f-via-then-not-f+else-f-input v ↦ inr (let h = v.if-f-input.false in omega arith)
      | else-not-f-via-else-not-f v ↦ inl (not-false _ v.if-not-f.false)
    ] in
    let s = c.in-Some-strip_prefix.ensures.cases in
    let want = c.args.want.now in
    let most = take c.feed-f.result.written c.feed-f.new.out in
    let last = take c.in-Some.n c.finish.new.out in
    let n = length most in
    let first : take n want ≡ most = same_text (take n want) most (sym s.0) in
    let rest : drop n want ≡ last = sym s.1 ∙ same_text c.in-Some-strip_prefix.rest.now last (sym (sym c.eq.ensures ∙ e)) in
    sym (take-append-drop n want)
    ∙ (λ i. first i ++ rest i)
    ∙ held _ _ _ (omega arith) (omega arith) _ _ _ _ _ _ _ c.new-bench.ensures c.feed-f.ensures c.finish.ensures c.in-Some.is all
