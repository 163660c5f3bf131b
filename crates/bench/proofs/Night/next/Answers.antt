-- The search begins where the pair has read to. Assumes nothing.
use borrow.Author.Tests.{tests}
use Rattle.std.proofs.Common.{rules, arith, ◌≡◌, ℕ, ◌+◌, ◌*◌, ◌∙◌, ap, get_or, Option}
use Rattle.std.proofs.lemmas.Iterator.{YieldsList-from_slice, YieldsList-from_take}
use Rattle.std.proofs.lemmas.Iterator.Adapters.{YieldsList-from_skip, position_from-zero}
use Rattle.std.proofs.lemmas.Iterator.Search.{position_from_yields_List}
use Rattle.std.specs.Option.{option_map, unwrap_or}
use lib.ListN.{take, drop}
use Rattle.frame.specs.Message.{by}
use Rattle.bench.specs.Night.{seek, next_of}
use Rattle.bench.proofs.Nights.{seek_from}
use Rattle.bench.proofs.Night.next.Goals as goal

pub returns-clause-place : goal.returns-clause-place
unfolding next_of
returns-clause-place c =
    let a = c.args in
    let s = a.self.now in
    let read : ℕ = get_or s.read (16 * a.p + a.q) 0 in
    let rest = drop read (take s.count s.sent) in
    let chain = YieldsList-from_skip read (YieldsList-from_take s.count (YieldsList-from_slice s.sent cc) cc) cc in
    let e = position_from_yields_List (by a.p) _ _ c.position.result c.position.ensures.ran chain (λ x b q k. search (rules, tests)) in
    let f : c.map.result ≡ option_map (λ i. read + i) c.position.result = search rules in
    ap (λ (o : Option ℕ). unwrap_or o 256) (f ∙ ap (option_map (λ i. read + i)) (e ∙ position_from-zero (by a.p) rest)) ∙ seek_from a.p read 0 rest
    ∙ ap (λ (k : ℕ). seek a.p k rest) (let z : read + 0 ≡ read = omega arith in z)
