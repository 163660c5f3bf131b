use lib.ListN.{drop}
use Rattle.post.proofs.Works.Looking.{Going}
use Rattle.post.proofs.Post.look.Given as goal

-- what has been found, with those from the index on still to be looked at
abbrev pub invariant-loop-m : goal.invariant-loop-m
invariant-loop-m l = Going l.self.posts l.self.own l.self.last l.floor l.waiting (drop l.m-index l.waiting) l.top l.seen
