use Rattle.post.proofs.Works.Lacking.{own_found}
use Rattle.post.proofs.Post.own_stamp.Goals as goal

pub returns : goal.returns
returns c = own_found _ c.waiting.ensures c.own_stamp.ensures c.unwrap_or.ensures
