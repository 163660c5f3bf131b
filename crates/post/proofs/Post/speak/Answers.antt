-- A row refuses; or an own message is put among the waiting, and its frame goes out. Assumes nothing.
use borrow.Author.Rules.{rules}
use mathlib.Core.Path.{◌∙◌}
use lib.ListN.{length}
use Rattle.frame.proofs.Refusals.{no_refusal}
use Rattle.laws.proofs.ListLaws.{length_mapped}
use Rattle.post.specs.Calls.{own_rows}
use Rattle.post.proofs.Sound.Facts.{sound_has}
use Rattle.post.proofs.Fields.Shape.{Kept}
use Rattle.post.proofs.Works.Answering.{joined_countable, turned_countable, not_done, passed, said_written, is_said}
use Rattle.post.proofs.Post.speak.Goals as goal

pub returns-in-Err : goal.returns-in-Err
returns-in-Err c =
    let a = c.args in
    not_done a.self (own_rows a.own a.self (length a.buf.now)) _ _ c.in-Err.refusal c.in-Err.ensures c.refused.ensures

pub overflow_add-self : goal.overflow_add-self
overflow_add-self c = let s = (passed _ _ _ c.in_default.ensures).1.clock in search rules

pub join-requires : goal.join-requires
join-requires c = let t = (passed _ _ _ c.in_default.ensures).0 in (t, rw c.new-m.ensures (sound_has _ t).range.own_low)

pub settled-requires : goal.settled-requires
settled-requires c =
    let t = (passed _ _ _ c.in_default.ensures).0 in
    let k : Kept c.args.self = record { sound = t; shape = record { last = search rules; slots = search (length_mapped, rules) }; width = search rules } in
    turned_countable (joined_countable _ k _ _ c.join.ensures) _ _

pub unwrap-requires : goal.unwrap-requires
unwrap-requires c =
    let w = c.write.ensures in
    no_refusal _ ((rw (c.new-m.ensures, c.row-row.ensures.kind) at w.gives) ∙ said_written _ _ _ c.in_default.ensures)

pub returns : goal.returns
returns c =
    let w = c.write.ensures in
    let j = c.join.ensures in
    let a = c.settled.ensures in
    is_said _ _ _ c.in_default.ensures (rw (c.new-m.ensures, c.row-row.ensures.kind) at j) (rw c.row-row.ensures.to at a) (rw (c.new-m.ensures, c.row-row.ensures.kind) at w)
