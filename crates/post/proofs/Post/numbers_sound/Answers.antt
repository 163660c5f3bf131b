use Rattle.std.proofs.Common.{◌≡◌, ◌∙◌, ◌&&◌, arith, rules}
use Rattle.std.proofs.lemmas.Grind.{common_steps}
use Rattle.post.specs.Sound.{absent_silent, clock_above, number_rules}
use Rattle.post.proofs.Works.Rules.{lasts_fit}
use Rattle.post.proofs.Post.numbers_sound.Goals as goal

pub returns-then-self-le62 : goal.returns-then-self-le62
unfolding number_rules
returns-then-self-le62 c =
    let p = c.args.self.now in
    let e : c.lasts_fit.result ≡ absent_silent p && clock_above p = c.lasts_fit.ensures ∙ lasts_fit p (search rules) in
    grind (arith, common_steps)
