use Prim.Native.Nat.{◌^◌}
use mathlib.Core.Path.{◌≡◌}
use Rattle.laws.specs.Below.{least_to}
use Rattle.frame.specs.Message.{stamp_of}
use Rattle.post.specs.Record.{last_of}
use Rattle.post.proofs.Post.floor.Given as goal

abbrev pub invariant-loop-q : goal.invariant-loop-q
invariant-loop-q l = l.least ≡ least_to l.q l.self.own (2 ^ 40) (λ x. stamp_of (last_of l.self x) x)
