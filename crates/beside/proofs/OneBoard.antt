-- What is seen of one board, from its start through any calls, is what its full queue says: frames written and accepted, messages held and
-- settled, marks, phase. The record is the record of the queue and answers as it does (demand 2); its floor settles what the queue has heard;
-- the rest is in the history. Assumes nothing.
use mathlib.Core.Path.{◌≡◌, refl, sym, ap, ◌∙◌, subst₂}
use mathlib.Core.Bool.{◌&&◌}
use mathlib.Core.List.{List, [], map}
use Prim.Native.Nat.{ℕ}
use lib.Dec.{leb, leb→le, le→leb}
use Rattle.laws.specs.Lists.{keep, final}
use Rattle.laws.proofs.Tests.{same_test}
use Rattle.laws.proofs.ListLaws.{keep_cong}
use Rattle.frame.specs.Message.{blank, counted, stamp, by}
use Rattle.calls.specs.declared.Start.{Start}
use Rattle.calls.specs.Replies.{Call, after}
use Rattle.calls.proofs.Ranges.{range_is}
use Rattle.queue.specs.Queue.{Queue, heard, settled, grants, latest, phase}
use Rattle.queue.specs.Calls.{on_queue}
use Rattle.queue.proofs.Floors.{heard-floor}
use Rattle.queue.proofs.Fitting.{Fitting}
use Rattle.queue.proofs.Demand3 as queue
use Rattle.post.specs.declared.Post.{Post}
use Rattle.post.specs.Record.{floor}
use Rattle.beside.specs.Image.{image}
use Rattle.beside.specs.OnRecord.{on_record, started_post}
use Rattle.beside.specs.Demand2.{Accepted, FramesAreBytes}
use Rattle.beside.specs.Demand3.{Event, history, wrote, message_in, accepted_of, held, marks, InOrder}
use Rattle.beside.proofs.ImageParts.{image-floor}
use Rattle.beside.proofs.Starts.{started_fits}
use Rattle.beside.proofs.Demand2.{same_record, same-history}
use Rattle.beside.proofs.Histories.{recounts}
use Rattle.beside.proofs.LastTake.{marks_are}

-- what is at or below the record's floor is what the queue has settled
settled-by-floor : (st : Start) (q : Queue) → Fitting st q → keep (λ m. counted m && leb (stamp m) (floor (image st q))) q ≡ settled st q
unfolding settled
settled-by-floor st q k =
    let g = k.kept.good.sorted in
    let e = image-floor st q g in
    keep_cong _ _ q (λ m i.
    let h = heard-floor st q g k.width m i in
    ap (λ (n : ℕ). counted m && leb (stamp m) n) e
    ∙ ap (λ b. counted m && b) (same_test (leb (stamp m) _) (heard st q m) (λ t. h.1 (leb→le (stamp m) _ t)) (λ t. le→leb (stamp m) _ (h.0 t))))

pub record OfQueue (st : Start) (q : Queue) (es : List Event) (p : Post) : Type 0 where
  pub wrote_is : map message_in (wrote es) ≡ keep (by st.own) q
  pub accepted_is : (r : ℕ) → (r ≡ st.own → ⊥) → map message_in (accepted_of r es) ≡ keep (by r) q
  pub held_is : held [] es ≡ q
  pub settled_is : keep (λ m. counted m && leb (stamp m) (floor p)) (held [] es) ≡ settled st q
  pub marks_is : marks blank es ≡ grants st q
  pub phase_is : p.phase ≡ phase st q

pub of_queue : (st : Start) → Accepted st → (calls : List Call) → FramesAreBytes calls
    → OfQueue st (after (on_queue st) [] calls) (history on_record (started_post st) calls) (after on_record (started_post st) calls)
unfolding keep image latest final
of_queue st a calls b =
    let q = after (on_queue st) [] calls in
    let es = history (on_queue st) [] calls in
    let k = started_fits st a in
    let n = range_is st a in
    let r = recounts st a calls b [] k in
    let here : OfQueue st q es (image st q) = record {
      wrote_is = sym r.sends;
      accepted_is = λ x d. sym (r.others x d);
      held_is = r.puts;
      settled_is = ap (keep (λ m. counted m && leb (stamp m) (floor (image st q)))) r.puts ∙ settled-by-floor st q r.fitting;
      marks_is = marks_are st a calls b [] k blank (λ t. absurd t) ∙ sym (queue.marks st n.posts_high n.own_low calls);
      phase_is = refl;
    } in
    subst₂ (OfQueue st q) (sym (same-history st a calls b)) (sym (same_record st a calls b)) here

pub in_order : InOrder
in_order st a calls b = let o = of_queue st a calls b in (o.wrote_is, o.accepted_is)
