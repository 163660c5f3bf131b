use mathlib.Core.Path.{refl, ◌∙◌, sym}
use denote.Floats.{passes}
use Rattle.laws.proofs.Ladders.{off}
use Rattle.post.specs.Calls.{missed}
use Rattle.post.proofs.Sound.Facts.{sound_has}
use Rattle.post.proofs.Works.Lacking.{none_missed, some_missed}
use Rattle.post.proofs.Post.missing.Goals as goal

pub returns-then-not-is_sound : goal.returns-then-not-is_sound
unfolding missed
returns-then-not-is_sound c = off _ _ _ (sym c.is_sound.ensures ∙ c.if-not-is_sound.true) refl

pub returns-then-self-ne-ASKED : goal.returns-then-self-ne-ASKED
returns-then-self-ne-ASKED c = none_missed _ (sym c.is_sound.ensures ∙ c.if-not-is_sound.false) c.if-self-ne-ASKED.true

pub own_stamp-t-requires : goal.own_stamp-t-requires
own_stamp-t-requires c = (sound_has _ (passes _ (sym c.is_sound.ensures ∙ c.if-not-is_sound.false))).waits

pub late-set-requires : goal.late-set-requires
late-set-requires c = (sound_has _ (passes _ (sym c.is_sound.ensures ∙ c.if-not-is_sound.false))).range.posts_high

pub returns : goal.returns
returns c = some_missed _ (sym c.is_sound.ensures ∙ c.if-not-is_sound.false) c.if-self-ne-ASKED.false _ _ c.own_stamp-t.ensures c.late-set.ensures
