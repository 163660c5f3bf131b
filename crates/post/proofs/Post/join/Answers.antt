use borrow.Author.Rules.{rules}
use Prim.Native.Nat.{◌+◌}
use mathlib.Core.Path.{ap, sym, ◌∙◌, subst}
use mathlib.Core.List.{List, ◌++◌}
use native.Mathlib.Omega.{arith}
use lib.ListN.{drop}
use Rattle.laws.specs.Lists.{Rising, put}
use Rattle.laws.proofs.ListLaws.{length_mapped}
use Rattle.frame.specs.declared.Message.{Message}
use Rattle.frame.specs.Message.{stamp}
use Rattle.post.specs.Inside.{joined}
use Rattle.post.proofs.Sound.Facts.{sound_has}
use Rattle.post.proofs.Fields.Shape.{Kept}
use Rattle.post.proofs.Works.Remaking.{with_message, has_room, first_slots}
use Rattle.post.proofs.Post.join.Goals as goal

pub slice_bounds-put-end : goal.slice_bounds-put-end
slice_bounds-put-end c =
    let k : Kept c.args.self.now = record { sound = c.requires.0; shape = record { last = search rules; slots = search (length_mapped, rules) }; width = search rules } in
    let r = has_room _ k in omega arith

pub put-requires : goal.put-requires
put-requires c =
    let k : Kept c.args.self.now = record { sound = c.requires.0; shape = record { last = search rules; slots = search (length_mapped, rules) }; width = search rules } in
    let f = first_slots _ k in
    (f.0, subst (Rising stamp) (sym f.1) (sound_has _ c.requires.0).rising)

pub bounds-self-m : goal.bounds-self-m
bounds-self-m c = let b = (sound_has _ c.requires.0).range.posts_high in let m = c.requires.1 in omega arith

pub bounds-self-self : goal.bounds-self-self
bounds-self-self c = let r = (sound_has _ c.requires.0).range in let b = r.posts_high in let o = r.own_low in omega arith

pub returns : goal.returns
unfolding joined
returns c =
    let p = c.args.self.now in
    let m = c.args.m in
    let k : Kept p = record { sound = c.requires.0; shape = record { last = search rules; slots = search (length_mapped, rules) }; width = search rules } in
    with_message p k c.args.clock _ m _ p.phase p.order
    (ap (λ (x : List Message). x ++ drop (p.waits + 1) p.slots) (c.put.ensures ∙ ap (put stamp m) (first_slots p k).1))
