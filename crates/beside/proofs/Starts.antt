-- A start gives the record of the empty queue, or one that refuses every call where its numbers are out of range. Assumes nothing.
use mathlib.Core.List.{List, [], ◌∷◌, map}
use mathlib.Core.Path.{◌≡◌, refl, sym, ap, ap₂, ◌∙◌, subst}
use mathlib.Core.Bool.{Bool, cond}
use lib.Ieee.Bits.{is_true, is_false}
use Rattle.laws.specs.Ladder.{unless}
use Rattle.laws.specs.Lists.{keep, final, top}
use Rattle.calls.specs.declared.Start.{Start}
use Rattle.calls.specs.Start.{starting, in_range}
use Rattle.queue.specs.Queue.{clock, last, settled, waiting, latest, phase, order}
use Rattle.calls.specs.Replies.{Call, own_call, receive_call, value_call, missing_call, after, replies}
use Rattle.queue.proofs.Fitting.{Fitting, fitting-empty}
use Rattle.post.specs.declared.Post.{Post}
use Rattle.post.specs.Calls.{StartTold}
use Rattle.post.specs.Record.{fresh}
use Rattle.post.specs.Sound.{number_rules, sound}
use Rattle.post.specs.Calls as post
use Rattle.calls.proofs.Ranges.{range_is}
use Rattle.beside.specs.Image.{list_from, image}
use Rattle.beside.specs.OnRecord.{on_record, started_post}
use Rattle.beside.specs.Demand1.{refused_with}
use Rattle.beside.specs.Demand2.{Accepted, RefusedStart}

-- the all-zero record
abbrev zero : Post
zero = fresh (starting 0 0 0 0)

-- the record by whether the numbers are in range
abbrev either : Start → Bool → Post
either st b = (cond {A = StartTold} b (record { post = fresh st; number = 0 }) (record { post = zero; number = 1 })).post

pub started-image : (st : Start) → Accepted st → started_post st ≡ image st []
unfolding post.started fresh image list_from clock last settled waiting keep top phase order latest final
started-image st a = ap (either st) (is_true (in_range st) a)

pub started_fits : (st : Start) → Accepted st → Fitting st []
started_fits st a =
    let r = range_is st a in
    fitting-empty st (record { few = r.posts_high; mine = r.own_low })

zero_refuses : (c : Call) → ((on_record zero c).reply ≡ refused_with 1 c) × ((on_record zero c).next ≡ zero)
unfolding on_record post.own_rows post.receive_rows unless post.valued
    post.missed sound number_rules in_range fresh
zero_refuses (own_call o lent) = (refl, refl)
zero_refuses (receive_call s lent) = (refl, refl)
zero_refuses value_call = (refl, refl)
zero_refuses missing_call = (refl, refl)

-- call after call
zero_stays : (calls : List Call) → (replies on_record zero calls ≡ map (refused_with 1) calls) × (after on_record zero calls ≡ zero)
unfolding replies after
zero_stays [] = (refl, refl)
zero_stays (c ∷ calls) =
    let one = zero_refuses c in
    let rest = zero_stays calls in (
      ap₂ ◌∷◌ one.0 (ap (λ (p : Post). replies on_record p calls) one.1 ∙ rest.0),
      ap (λ (p : Post). after on_record p calls) one.1 ∙ rest.1,
    )

pub refuses : RefusedStart
unfolding post.started
refuses st n calls =
    let e : started_post st ≡ zero = ap (either st) (is_false (in_range st) n) in
    subst (λ (p : Post). (replies on_record p calls ≡ map (refused_with 1) calls) × (after on_record p calls ≡ p)) (sym e) (zero_stays calls)
