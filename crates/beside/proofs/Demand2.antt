-- Demand 2: the short record answers as the full queue does. The proofs of `specs/Demand2`. Assumes nothing.
use mathlib.Core.Path.{◌≡◌, refl, ap, ap₂, ◌∙◌}
use mathlib.Core.List.{List, [], ◌∷◌}
use native.Mathlib.Omega.{arith}
use lib.Dec.{T}
use Rattle.frame.proofs.FrameFields.{counter_fits}
use Rattle.calls.specs.declared.Start.{Start}
use Rattle.queue.specs.Queue.{Queue}
use Rattle.calls.specs.Replies.{Call, own_call, receive_call, value_call, missing_call, Reply, after, replies}
use Rattle.queue.specs.Calls.{on_queue}
use Rattle.queue.proofs.Fitting.{Fitting, CounterFits, fitting_next}
use Rattle.post.specs.declared.Post.{Post}
use Rattle.post.specs.Sound.{sound}
use Rattle.calls.proofs.Ranges.{range_is}
use Rattle.beside.specs.Image.{image}
use Rattle.beside.specs.OnRecord.{on_record, started_post}
use Rattle.beside.specs.Demand2.{Accepted, FramesAreBytes, Demand2, SameRecord, SideBySide, RefusedStart}
use Rattle.beside.specs.Demand3.{Event, history}
use Rattle.beside.proofs.ImageSound.{image-sound}
use Rattle.beside.proofs.Answers.{Same, own_same, receive_same}
use Rattle.beside.proofs.Inquiries.{value_same, missing_same}
use Rattle.beside.proofs.Starts.{started-image, started_fits, refuses}

-- one call on the record of a queue answers as on the queue, and leaves the record of the queue after it
by_call : (st : Start) (q : Queue) → Fitting st q → T (sound (image st q)) → (c : Call) → CounterFits c
    → Same st (on_record (image st q) c) (on_queue st q c)
by_call st q k s (own_call o lent) f = own_same st q k s o lent
by_call st q k s (receive_call frame lent) f = receive_same st q k s frame lent f
by_call st q k s value_call f = value_same st q k s
by_call st q k s missing_call f = missing_same st q k s

pub one_call : (st : Start) → Accepted st → (q : Queue) → Fitting st q → (c : Call) → CounterFits c
    → Same st (on_record (image st q) c) (on_queue st q c)
one_call st a q k = by_call st q k (image-sound st q k (range_is st a))

-- the counter of a frame of bytes fits
pub counters_fit : (c : Call) (calls : List Call) → FramesAreBytes (c ∷ calls) → CounterFits c × FramesAreBytes calls
counters_fit (own_call o lent) calls b = (tt, b)
counters_fit (receive_call s lent) calls b = let h = counter_fits s b.0 in (omega arith, b.1)
counters_fit value_call calls b = (tt, b)
counters_fit missing_call calls b = (tt, b)

any_calls : (st : Start) → Accepted st → (calls : List Call) → FramesAreBytes calls → (q : Queue) → Fitting st q
    → (replies on_record (image st q) calls ≡ replies (on_queue st) q calls)
    × (after on_record (image st q) calls ≡ image st (after (on_queue st) q calls))
    × (history on_record (image st q) calls ≡ history (on_queue st) q calls)
unfolding after replies history
any_calls st a [] b q k = (refl, refl, refl)
any_calls st a (c ∷ calls) b q k =
    let f = counters_fit c calls b in
    let s = one_call st a q k c f.0 in
    let r = any_calls st a calls f.1 (on_queue st q c).next (fitting_next st q k c f.0) in (
      ap₂ ◌∷◌ s.reply (ap (λ (p : Post). replies on_record p calls) s.next ∙ r.0),
      ap (λ (p : Post). after on_record p calls) s.next ∙ r.1,
      ap₂ (λ (x : Reply) (es : List Event). record { call = c; reply = x } ∷ es) s.reply (ap (λ (p : Post). history on_record p calls) s.next ∙ r.2),
    )

pub demand2 : Demand2
demand2 st a calls b = ap (λ (p : Post). replies on_record p calls) (started-image st a) ∙ (any_calls st a calls b [] (started_fits st a)).0

pub same_record : SameRecord
same_record st a calls b = ap (λ (p : Post). after on_record p calls) (started-image st a) ∙ (any_calls st a calls b [] (started_fits st a)).1

-- so the calls with their replies are the same too
pub same-history : (st : Start) → Accepted st → (calls : List Call) → FramesAreBytes calls
    → history on_record (started_post st) calls ≡ history (on_queue st) [] calls
same-history st a calls b = ap (λ (p : Post). history on_record p calls) (started-image st a) ∙ (any_calls st a calls b [] (started_fits st a)).2

pub side_by_side : SideBySide
unfolding image
side_by_side st a calls b = let e = same_record st a calls b in (ap (λ (p : Post). p.order) e, ap (λ (p : Post). p.phase) e)

pub refused-start : RefusedStart
refused-start = refuses
