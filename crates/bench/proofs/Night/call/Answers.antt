-- The record that the code reads stands in its place. Assumes nothing.
use Rattle.std.proofs.Common.{◌≡◌, refl, length, rules, arith}
use Rattle.laws.proofs.ListLaws.{length_mapped}
use Rattle.laws.proofs.StoreLaws.{within}
use Rattle.bench.specs.Night.{opened}
use Rattle.bench.proofs.Night.call.Goals as goal

pub returns : goal.returns
returns g c =
    let posts = c.args.self.now.posts in
    let l : length posts ≡ 16 = search (length_mapped, rules) in
    let h = c.requires.within in
    (_, _, _, c.f-answer.result, within posts c.args.p _ (opened 0 0 0) (omega arith), refl, c.f-answer.ensures, c.hand_back.ensures)
