use mathlib.Core.Path.{◌∙◌}
use native.Mathlib.Omega.{arith}
use Rattle.frame.proofs.Refusals.{no_refusal}
use Rattle.post.proofs.Sound.Facts.{sound_has}
use Rattle.post.proofs.Works.Answering.{joined-came, ack_written, is_acknowledged}
use Rattle.post.proofs.Post.accept.Goals as goal

pub unwrap-requires : goal.unwrap-requires
unwrap-requires c =
    let s = sound_has _ c.requires.0 in
    let o = s.range.own_low in
    let h = s.range.posts_high in
    let w = c.write.ensures in
    no_refusal _ ((rw c.new-ack.ensures at w.gives) ∙ ack_written c.args.self.now c.args.m _ _ (omega arith) c.requires.5)

pub returns-clause-joins : goal.returns-clause-joins
returns-clause-joins c = let j = c.join.ensures in joined-came c.args.self.now c.args.m c.requires.2 c.requires.3 c.max.ensures (rw c.new-ack.ensures at j)

pub returns-clause-leaves : goal.returns-clause-leaves
returns-clause-leaves c =
    let s = sound_has _ c.requires.0 in
    let o = s.range.own_low in
    let h = s.range.posts_high in
    let w = c.write.ensures in
    is_acknowledged c.args.self.now c.args.m _ c.requires.3 c.max.ensures (rw c.new-ack.ensures at w) (omega arith) c.requires.5
