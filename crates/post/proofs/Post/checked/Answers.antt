use Rattle.std.proofs.Common.{◌∙◌, sym}
use Rattle.post.proofs.Works.Rules.{numbers_has}
use Rattle.post.proofs.Post.checked.Goals as goal

pub slots_checked-requires : goal.slots_checked-requires
slots_checked-requires c = numbers_has _ (sym c.numbers_sound.ensures ∙ c.if-not-numbers_sound.false)
