use borrow.Author.Rules.{rules}
use Rattle.post.proofs.Sound.Facts.{sound_has}
use Rattle.post.proofs.Post.check_turn.Goals as goal

pub bounds-self-m : goal.bounds-self-m
bounds-self-m c = let h = (sound_has _ c.requires.0).range.posts_high in let m = c.requires.1 in search rules
