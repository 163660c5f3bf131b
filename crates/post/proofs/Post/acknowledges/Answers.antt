use Rattle.calls.specs.View.{acks}
use Rattle.post.proofs.Post.acknowledges.Goals as goal

pub returns : goal.returns
unfolding acks
returns c = c.is_counted.ensures
