use borrow.Author.Rules.{rules}
use Prim.Native.Nat.{◌-◌}
use lib.Dec.{leb}
use lib.ListN.{length, take, set}
use mathlib.Core.Path.{ap, ◌∙◌}
use mathlib.Core.List.{List}
use Rattle.frame.specs.declared.Message.{Message}
use Rattle.std.proofs.Common.{tests}
use Rattle.std.proofs.lemmas.List.Sorted.{IsPartitionPoint-from_clause, IsPartitionedBy-leb}
use Rattle.frame.specs.Message.{stamp}
use Rattle.post.proofs.Works.Inserting.{rises_on, put_in}
use Rattle.post.proofs.slots.put.Goals as goal

pub returns : goal.returns
returns c =
    let l = c.args.slots.now in
    let ws = take (length l - 1) l in
    let at = c.partition_point-i in
    ap (λ (x : List Message). set x at.result c.args.m) c.copy_within.ensures.after
    ∙ put_in stamp l c.args.m at.result c.stamp-t.ensures c.requires.0 at.ensures.bound
    (IsPartitionPoint-from_clause (λ w. leb (stamp w) c.stamp-t.result) ws at.result at.ensures.partitioned
    (IsPartitionedBy-leb stamp ws c.stamp-t.result (rises_on stamp ws c.requires.1)) (λ a r q k. search (rules, tests)))
