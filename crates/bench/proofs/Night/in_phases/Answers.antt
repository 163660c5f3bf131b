-- Those that pass are counted. Assumes nothing.
use Rattle.std.proofs.Common.{◌≡◌, ◌∙◌, ◌&&◌, leb, rules, Bool}
use Rattle.std.specs.List.{count_by}
use Rattle.post.specs.declared.Post.{Post}
use Rattle.bench.specs.Bench.{in_phases}
use Rattle.bench.proofs.Nights.{counted}
use Rattle.bench.proofs.Night.in_phases.Goals as goal

pub returns : goal.returns
unfolding in_phases
returns c =
    let a = c.args in
    let test : Post → Bool = λ p. leb a.lo p.phase && leb p.phase a.hi in
    let e : c.count.result ≡ count_by test a.self.now.posts = search rules in
    e ∙ counted test a.self.now.posts
