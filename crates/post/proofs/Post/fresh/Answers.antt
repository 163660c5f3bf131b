use borrow.Author.Rules.{rules}
use Rattle.laws.proofs.Ladders.{picks}
use Rattle.post.specs.Record.{fresh}
use Rattle.post.proofs.Post.fresh.Goals as goal

pub returns : goal.returns
unfolding fresh
returns c = search (picks, rules) depth 12
