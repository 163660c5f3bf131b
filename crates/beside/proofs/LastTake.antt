-- A call that gives the grant mark grants the last take that was written by then. The own latest take or return is the last of what was
-- written; at a mark it is a take, so it is the last take; and so the takes of the marked calls are the granted ones. Assumes nothing.
use mathlib.Core.Path.{◌≡◌, refl, sym, ap, ap₂, ◌∙◌}
use mathlib.Core.Bool.{Bool, true, false, cond}
use mathlib.Core.List.{List, [], ◌∷◌, ◌++◌, map}
use lib.Dec.{T, T_not}
use lib.Ieee.Bits.{is_true, is_false}
use Rattle.laws.specs.Lists.{keep, final}
use Rattle.laws.proofs.Tests.{test}
use Rattle.laws.proofs.ListLaws.{keep_append, keep-keep, final-append}
use Rattle.frame.specs.declared.Message.{Message}
use Rattle.frame.specs.Message.{msg, return_kind, is_take, is_return, counted, by}
use Rattle.calls.specs.declared.Start.{Start}
use Rattle.calls.specs.Replies.{Call}
use Rattle.queue.specs.Queue.{Queue, latest}
use Rattle.queue.specs.Calls.{on_queue}
use Rattle.queue.specs.Demand3.{marked, marked_takes}
use Rattle.queue.proofs.Granted.{take_cast}
use Rattle.queue.proofs.Grants.{marked-take}
use Rattle.queue.proofs.Fitting.{Fitting, fitting_next}
use Rattle.beside.specs.Demand2.{Accepted, FramesAreBytes}
use Rattle.beside.specs.Tells.{written}
use Rattle.beside.specs.Demand3.{history, message_in, marks}
use Rattle.beside.proofs.Demand2.{counters_fit}
use Rattle.beside.proofs.Histories.{shows}

-- the latest after a call: the last take or return that was written, else the latest before
latest-after : (st : Start) (q q' : Queue) (ms : List Message) → keep (by st.own) q' ≡ keep (by st.own) q ++ ms
    → latest st q' ≡ final (keep counted ms) (latest st q)
unfolding latest
latest-after st q q' ms e =
    ap ends (sym (keep-keep counted (by st.own) q') ∙ ap (keep counted) e ∙ keep_append counted (keep (by st.own) q) ms)
    ∙ final-append (keep counted (keep (by st.own) q)) (keep counted ms) (msg return_kind st.own 0)
    ∙ ap (λ (l : List Message). final (keep counted ms) (ends l)) (keep-keep counted (by st.own) q)
  where
    ends : List Message → Message
    ends l = final l (msg return_kind st.own 0)

-- x, where it is a take, is t
abbrev Is : Message → Message → Type 0
Is x t = T (is_take x) → x ≡ t

-- so the last take or return of some more, where it is a take, is the last take of them
last-take : (ms : List Message) (x t : Message) → Is x t → Is (final (keep counted ms) x) (final (keep is_take ms) t)
unfolding keep final
last-take [] x t h = h
last-take (m ∷ ms) x t h =
    test (is_take m)
    (λ y. rw (is_true (is_take m) y) (last-take ms m m (λ z. refl)))
    (λ n.
    test (is_return m)
    (λ y. rw (is_false (is_take m) n, is_true (is_return m) y) (last-take ms m t (λ z. absurd (T_not (is_take m) n z))))
    (λ k. rw (is_false (is_take m) n, is_false (is_return m) k) (last-take ms x t h)))

module _ (st : Start) (a : Accepted st) where
  -- t is the last take that was written
  pub marks_are : (calls : List Call) → FramesAreBytes calls → (q : Queue) → Fitting st q → (t : Message) → Is (latest st q) t
      → marks t (history (on_queue st) q calls) ≡ marked_takes st q calls
  unfolding history marks marked_takes
  marks_are [] b q k t h = refl
  marks_are (c ∷ calls) b q k t h =
      let f = counters_fit c calls b in
      let x = on_queue st q c in
      let ms = map message_in (written x.reply) in
      let e = latest-after st q x.next ms (shows st a q k c f.0).sends in
      let i : Is (latest st x.next) (final (keep is_take ms) t) = λ z. e ∙ last-take ms (latest st q) t h (take_cast e z) in
      ap₂ ◌++◌
      (at_mark (marked x.reply) (latest st x.next) (final (keep is_take ms) t) (λ y. i (marked-take st q c y)))
      (marks_are calls f.1 x.next (fitting_next st q k c f.0) (final (keep is_take ms) t) i)
    where
      at_mark : (b : Bool) (x t : Message) → (T b → x ≡ t) → cond b (t ∷ []) [] ≡ cond b (x ∷ []) []
      at_mark true x t i = ap (λ (m : Message). m ∷ []) (sym (i tt))
      at_mark false x t i = refl
