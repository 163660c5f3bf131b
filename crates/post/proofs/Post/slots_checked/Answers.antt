use Rattle.std.proofs.Common.{◌≡◌, arith, rules}
use Rattle.std.proofs.lemmas.Grind.{common_steps}
use Rattle.post.specs.Sound.{none_alone, slot_rules}
use Rattle.laws.specs.Ladder.{every}
use Rattle.post.proofs.Works.Rules.{disorder, order, few_is, own_is}
use Rattle.post.proofs.Works.Looking.{seen_if}
use Rattle.post.proofs.Post.slots_checked.Goals as goal

pub returns-in_err-seen : goal.returns-in_err-seen
returns-in_err-seen c = rw c.from_residual.ensures (disorder c.args.self.now (rw c.floor.ensures at c.in_err-seen.ensures))

pub returns : goal.returns
unfolding none_alone
returns c =
    let p = c.args.self.now in
    let s = c.in_ok-seen.ensures in
    let seen = c.in_ok-seen.seen in
    let ordered = order p (rw c.floor.ensures at s.0) in
    let f = few_is p seen.counts (search rules) c.requires.posts s.1.counts in
    let o = own_is p seen s.1 in
    let e : every (slot_rules p) ≡ c.if-few.fits = grind (arith, common_steps) in
    rw c.then_some.ensures (seen_if p seen c.if-few.fits e s.1)
