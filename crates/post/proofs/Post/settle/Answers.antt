use Rattle.post.proofs.Works.Remaking.{settled_as}
use Rattle.post.proofs.Post.settle.Goals as goal

pub returns : goal.returns
returns c = settled_as _ c.tally.ensures c.is_free.ensures c.phase_after-self.ensures
