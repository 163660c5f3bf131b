-- Assumes nothing.
use borrow.Author.Rules.{rules}
use mathlib.Core.Path.{refl, ◌∙◌}
use borrow.Author.Tests.{eq-eqb, ne_eqb}
use Rattle.laws.proofs.ListLaws.{length_mapped}
use Rattle.laws.proofs.Ladders.{on, off}
use Rattle.post.proofs.Works.Remaking.{few_leave, tallied_as}
use Rattle.post.proofs.Post.tally.Goals as goal

pub leave-requires : goal.leave-requires
leave-requires c = (few_leave c.args.self.now c.requires (search (length_mapped, rules)) _ c.waiting.ensures c.leaving-gone.ensures).0

pub overflow_add-self : goal.overflow_add-self
overflow_add-self c = let f = few_leave c.args.self.now c.requires (search (length_mapped, rules)) _ c.waiting.ensures c.leaving-gone.ensures in search rules

pub returns-then-self-eq-ASKED : goal.returns-then-self-eq-ASKED
returns-then-self-eq-ASKED c =
    tallied_as c.args.self.now c.requires (search (length_mapped, rules)) _ c.waiting.ensures c.leaving-gone.ensures c.floor-floor.ensures c.leave.ensures
    (c.unwrap_or-self.ensures ∙ on _ _ _ (eq-eqb _ _ c.if-self-eq-ASKED.true) refl)

pub returns-else-self-eq-ASKED : goal.returns-else-self-eq-ASKED
returns-else-self-eq-ASKED c =
    tallied_as c.args.self.now c.requires (search (length_mapped, rules)) _ c.waiting.ensures c.leaving-gone.ensures c.floor-floor.ensures c.leave.ensures
    (off _ _ _ (ne_eqb _ _ c.if-self-eq-ASKED.false) refl)
