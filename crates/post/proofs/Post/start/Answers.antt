use mathlib.Core.Path.{◌∙◌, sym}
use Rattle.laws.proofs.Ladders.{on, off}
use Rattle.post.specs.Calls.{started}
use Rattle.post.proofs.Post.start.Goals as goal

pub returns-then-in_range : goal.returns-then-in_range
unfolding started
returns-then-in_range c =
    on _ _ _ (sym c.in_range.ensures ∙ c.if-in_range.true) (λ i. record { post = c.fresh.ensures i; number = 0 })

pub returns : goal.returns
unfolding started
returns c =
    off _ _ _ (sym c.in_range.ensures ∙ c.if-in_range.false) (λ i. record { post = c.fresh-2.ensures i; number = 1 })
