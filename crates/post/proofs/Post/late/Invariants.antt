use mathlib.Core.Path.{◌≡◌}
use mathlib.Core.Bool.{not, ◌&&◌}
use lib.Dec.{ltb, eqb}
use Rattle.laws.specs.Below.{bits_to}
use Rattle.frame.specs.Message.{stamp_of}
use Rattle.post.specs.Record.{last_of}
use Rattle.post.proofs.Post.late.Given as goal

abbrev pub invariant-loop-q : goal.invariant-loop-q
invariant-loop-q l = l.set ≡ bits_to l.q (λ x. not (eqb x l.self.own) && ltb (stamp_of (last_of l.self x) x) l.t)
