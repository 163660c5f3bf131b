-- What a board was asked and what it answered tell its full queue: what it sent is what it wrote, what it has of another is what it accepted
-- of that post, and all of it, each put in its place, is the queue. One call at a time: a reply tells what was sent and what came (`Tells`),
-- and the bytes that were written read back as what was sent. Assumes nothing.
use mathlib.Core.Path.{◌≡◌, refl, sym, ap, ap₂, ◌∙◌, subst}
use mathlib.Core.Logic.{inl, inr}
use mathlib.Core.List.{List, [], ◌∷◌, ◌++◌, append_assoc, append-nil, map, map-append}
use Prim.Native.Nat.{ℕ}
use Rattle.laws.specs.Lists.{In, keep}
use Rattle.laws.proofs.ListLaws.{in_right, keep_in, map-keep}
use Rattle.frame.specs.declared.Message.{Message}
use Rattle.frame.specs.declared.Fields.{Fields}
use Rattle.frame.specs.Message.{by}
use Rattle.frame.specs.Frame.{frame}
use Rattle.frame.specs.Demand2.{InWidth}
use Rattle.frame.proofs.FrameFields.{frame_fields}
use Rattle.calls.specs.declared.Start.{Start}
use Rattle.calls.specs.Replies.{Call, Answer, after}
use Rattle.calls.proofs.Ranges.{range_is}
use Rattle.queue.specs.Queue.{Queue}
use Rattle.queue.specs.Calls.{on_queue}
use Rattle.queue.proofs.Fitting.{Fitting, CounterFits, fitting_next, fitting_width}
use Rattle.beside.specs.Demand2.{Accepted, FramesAreBytes}
use Rattle.beside.specs.Tells.{written}
use Rattle.beside.specs.Demand3.{Event, history, taken, wrote, message_in, accepted_of, put_all, held}
use Rattle.beside.proofs.Demand2.{counters_fit}
use Rattle.beside.proofs.Tells.{came, tells}

-- frames read back as the messages they are written from
reads_back : (f : ℕ) (ms : List Message) → ((m : Message) → In m ms → InWidth f m) → map message_in (map (frame f) ms) ≡ ms
reads_back f [] h = refl
reads_back f (m ∷ ms) h = ap₂ ◌∷◌ (ap (λ (x : Fields). x.message) (frame_fields f m (h m (inl refl)))) (reads_back f ms (λ x i. h x (inr i)))

-- ---- one call

-- the frames of post r that a call handed in and that were accepted
abbrev took_of : ℕ → Event → List (List ℕ)
took_of r e = keep (λ f. by r (message_in f)) (taken e)

-- what a call's bytes tell of the queue after it
pub record Shows (st : Start) (q : Queue) (c : Call) (a : Answer Queue) : Type 0 where
  pub sends : keep (by st.own) a.next ≡ keep (by st.own) q ++ map message_in (written a.reply)
  pub others : (r : ℕ) → (r ≡ st.own → ⊥) → keep (by r) a.next ≡ keep (by r) q ++ map message_in (took_of r (record { call = c; reply = a.reply }))
  pub puts : a.next ≡ put_all (map message_in (taken (record { call = c; reply = a.reply }) ++ written a.reply)) q

module _ (st : Start) (a : Accepted st) where
  pub shows : (q : Queue) → Fitting st q → (c : Call) → CounterFits c → Shows st q c (on_queue st q c)
  shows q k c f =
      let t = tells st q k.kept.good.sorted c in
      let b = on_queue st q c in
      let e : Event = record { call = c; reply = b.reply } in
      let next = fitting_next st q k c f in
      let here : (m : Message) → In m t.said → In m b.next = λ m i.
      (keep_in (by st.own) m b.next (subst (In m) (sym t.sends) (in_right m (keep (by st.own) q) t.said i))).0 in
      let back : t.said ≡ map message_in (written b.reply) =
      sym (ap (map message_in) t.writes ∙ reads_back st.feeder t.said (λ m i. fitting_width st (range_is st a).feeder_high b.next next m (here m i))) in
      record {
        sends = t.sends ∙ ap (λ (l : List Message). keep (by st.own) q ++ l) back;
        others = λ r d. t.others r d ∙ ap (λ (l : List Message). keep (by r) q ++ l) (sym (map-keep message_in (by r) (taken e)));
        puts =
            t.puts
            ∙ ap (λ (l : List Message). put_all (came c b.reply ++ l) q) back
            ∙ ap (λ (l : List Message). put_all l q) (sym (map-append message_in (taken e) (written b.reply)));
      }

-- ---- any calls

-- what grows by the messages of some frames and then of some more
grows : (x : List Message) {y z : List Message} (f g : List (List ℕ)) → y ≡ x ++ map message_in f → z ≡ y ++ map message_in g → z ≡ x ++ map message_in (f ++ g)
grows x f g d e =
    e
    ∙ ap (λ (l : List Message). l ++ map message_in g) d
    ∙ append_assoc x (map message_in f) (map message_in g)
    ∙ ap (λ (l : List Message). x ++ l) (sym (map-append message_in f g))

-- from a queue to a later one
pub record Recounts (st : Start) (es : List Event) (q q' : Queue) : Type 0 where
  pub fitting : Fitting st q'
  pub sends : keep (by st.own) q' ≡ keep (by st.own) q ++ map message_in (wrote es)
  pub others : (r : ℕ) → (r ≡ st.own → ⊥) → keep (by r) q' ≡ keep (by r) q ++ map message_in (accepted_of r es)
  pub puts : held q es ≡ q'

module _ (st : Start) (a : Accepted st) where
  pub recounts : (calls : List Call) → FramesAreBytes calls → (q : Queue) → Fitting st q
      → Recounts st (history (on_queue st) q calls) q (after (on_queue st) q calls)
  unfolding after history wrote accepted_of held
  recounts [] b q k = record {
    fitting = k;
    sends = sym (append-nil (keep (by st.own) q));
    others = λ r d. sym (append-nil (keep (by r) q));
    puts = refl;
  }
  recounts (c ∷ calls) b q k =
      let f = counters_fit c calls b in
      let x = on_queue st q c in
      let e : Event = record { call = c; reply = x.reply } in
      let es = history (on_queue st) x.next calls in
      let s = shows st a q k c f.0 in
      let r = recounts calls f.1 x.next (fitting_next st q k c f.0) in
      record {
        fitting = r.fitting;
        sends = grows (keep (by st.own) q) (written x.reply) (wrote es) s.sends r.sends;
        others = λ y d. grows (keep (by y) q) (took_of y e) (accepted_of y es) (s.others y d) (r.others y d);
        puts = ap (λ (l : List Message). held l es) (sym s.puts) ∙ r.puts;
      }
