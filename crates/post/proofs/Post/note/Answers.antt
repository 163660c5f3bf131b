use borrow.Author.Rules.{rules}
use Prim.Native.Nat.{ℕ}
use mathlib.Core.Path.{◌∙◌, ap}
use native.Mathlib.Omega.{arith}
use lib.ListN.{set}
use Rattle.laws.proofs.ListLaws.{length_mapped}
use Rattle.post.specs.Record.{waiting_of, remade}
use Rattle.post.specs.Inside.{noted}
use Rattle.post.proofs.Sound.Facts.{sound_has}
use Rattle.post.proofs.Fields.Shape.{Kept}
use Rattle.post.proofs.Works.Remaking.{without_message}
use Rattle.post.proofs.Post.note.Goals as goal

pub bounds-self-m : goal.bounds-self-m
bounds-self-m c = let b = (sound_has _ c.requires.0).range.posts_high in let m = c.requires.1 in omega arith

pub returns : goal.returns
unfolding noted
returns c =
    let p = c.args.self.now in
    let m = c.args.m in
    let z : Kept p = record { sound = c.requires.0; shape = record { last = search rules; slots = search (length_mapped, rules) }; width = search rules } in
    without_message p z _ _
    ∙ ap (λ (x : ℕ). remade p x (set p.last m.sender m.counter) (waiting_of p) p.phase p.order) c.max-self.ensures
