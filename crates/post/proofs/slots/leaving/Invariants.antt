use lib.ListN.{drop}
use Rattle.post.proofs.Works.Leaving.{Leaves}
use Rattle.post.proofs.slots.leaving.Given as goal

abbrev pub invariant-loop-m : goal.invariant-loop-m
invariant-loop-m l = Leaves l.own l.takes l.floor l.waiting (drop l.m-index l.waiting) l.gone
