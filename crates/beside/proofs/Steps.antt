-- A take, a return and a receive bring the record of a queue to the record of the queue after that call. Assumes nothing.
use mathlib.Core.Path.{◌≡◌, refl, sym, ap, ap₂, ◌∙◌, subst}
use mathlib.Core.Logic.{inl, inr, ⊎_elim}
use mathlib.Core.Bool.{Bool, true, false, not, cond}
use mathlib.Core.List.{List}
use Prim.Native.Nat.{ℕ, ◌+◌, ◌≤◌, ◌<◌, max}
use native.Mathlib.Omega.{arith}
use native.Mathlib.Numerals.{add-one}
use lib.Dec.{T, eqb, eqb→eq, eqb_refl}
use lib.ListN.{set}
use mir.Facts.{yes_and}
use Rattle.laws.specs.Lists.{In, put}
use Rattle.laws.proofs.Tests.{test, cond_both, and_l}
use Rattle.laws.proofs.RisingLaws.{in_put, put_in}
use Rattle.frame.specs.declared.Message.{Message}
use Rattle.frame.specs.Message.{msg, take_kind, return_kind, ack_kind, is_take, counted, last_counter, stamp, by}
use Rattle.calls.specs.declared.Start.{Start}
use Rattle.queue.specs.Queue.{Queue, clock, last, heard, waiting, latest, phase, order}
use Rattle.calls.specs.declared.Own.{Own}
use Rattle.calls.specs.declared.Own.TheVariants.{Taking, Returning}
use Rattle.calls.specs.Own.{row_of}
use Rattle.calls.specs.View.{View, acks}
use Rattle.calls.proofs.Passing.{own_known, own_counted_lem}
use Rattle.queue.specs.Calls.{view, saying, say, accept}
use Rattle.queue.proofs.Good.{Fit, Sorted, New, sorted_say}
use Rattle.queue.proofs.Granted.{take_cast, latest_in, idle_latest, latest-said, latest_accepted}
use Rattle.queue.proofs.Phases.{phase_idle, order_idle, phase-asked, phase_numbered, order_numbered}
use Rattle.queue.proofs.Waiting.{waits_latest, no_take_waits, latest_waits}
use Rattle.queue.proofs.Clocks.{clock-put, clock-say, last-put_other, last_new, last-said, last-said_other}
use Rattle.queue.proofs.Settling.{between_say, arrived, between_accept}
use Rattle.queue.proofs.Fitting.{Fitting}
use Rattle.post.specs.Record.{remade}
use Rattle.post.specs.Settle.{settle}
use Rattle.post.specs.declared.Post.{Post}
use Rattle.post.specs.Calls.{spoken, waiting_with, came}
use Rattle.post.proofs.Own.Takes.{Only}
use Rattle.beside.specs.Image.{lasts, image}
use Rattle.beside.proofs.Listed.{set-list_from}
use Rattle.beside.proofs.ImageParts.{image-waiting, image-view}
use Rattle.beside.proofs.Counted.{unsettled, Stand, idle, asked, numbered, settles_to_image}

pub saying_is : (st : Start) (kind : ℕ) (q : Queue) → msg kind st.own (clock q + 1) ≡ saying st kind q
unfolding saying
saying_is st kind q = ap (msg kind st.own) (add-one (clock q))

module _ (st : Start) (q : Queue) (fit : Fit st) (kind : ℕ) where
  clock-said : clock q + 1 ≡ clock (say st kind q)
  clock-said = add-one (clock q) ∙ sym (clock-say st kind q)

  lasts-said : set (lasts q) st.own (clock q + 1) ≡ lasts (say st kind q)
  lasts-said =
      let a = fit.mine in
      let b = fit.few in
      set-list_from 16 (λ r. last r q) (λ r. last r (say st kind q)) st.own (clock q + 1) (omega arith)
      (last-said st kind q ∙ sym (add-one (clock q)))
      (λ r l d. last-said_other st kind q r d)

spoken_is : (st : Start) (q : Queue) → Fit st → (o : Own)
    → let kind = (row_of o).kind in spoken o (image st q) ≡ unsettled st q (say st kind q) (put stamp (saying st kind q) (waiting st q)) (row_of o).to 0
unfolding spoken image
spoken_is st q fit o =
    let kind = (row_of o).kind in
    λ i. remade (image st q) (clock-said st q fit kind i) (lasts-said st q fit kind i) (put stamp (saying_is st kind q i) (image-waiting st q i)) (row_of o).to 0

module _ (st : Start) (q : Queue) (k : Fitting st q) where
  abbrev g : Sorted st q
  g = k.kept.good.sorted

  -- what waits with an own message of a kind
  abbrev with_said : ℕ → List Message
  with_said kind = put stamp (saying st kind q) (waiting st q)

  said_step : (o : Own) → clock q < last_counter
      → let kind = (row_of o).kind in Stand st q (say st kind q) (with_said kind) (row_of o).to 0 → settle (spoken o (image st q)) ≡ image st (say st kind q)
  said_step o l s =
      let kind = (row_of o).kind in
      ap settle (spoken_is st q g.fit o)
      ∙ settles_to_image st q (say st kind q) (with_said kind) (between_say st q g kind (own_known o) (own_counted_lem o 0 0)) (sorted_say st q g kind (own_known o))
      (let e = clock-say st kind q in omega arith) (row_of o).to 0 s

  -- the take that is said is the only own one that waits
  only_said : T (eqb (phase st q) 0) → Only st.own (saying st take_kind q) (with_said take_kind)
  unfolding saying
  only_said z =
      let t = saying st take_kind q in
      record {
        here = put_in stamp t t (waiting st q) (inl refl);
        own_take_lem = yes_and (eqb st.own st.own) _ (eqb_refl st.own) tt;
        alone = λ a i o.
            ⊎_elim
            (λ d. d)
            (λ j. absurd (no_take_waits st q g.rising k.kept.paid (idle_latest st q z) a j o))
            (in_put stamp t a (waiting st q) i);
      }

  pub own_step : (o : Own) → T (eqb (phase st q) (row_of o).from) → clock q < last_counter → settle (spoken o (image st q)) ≡ image st (say st (row_of o).kind q)
  own_step Taking z l =
      let e = sym (latest-said st q g take_kind tt) in
      said_step Taking l (asked refl (take_cast e (unfold saying in tt)) (subst (λ (x : Message). Only st.own x (with_said take_kind)) e (only_said z)))
  own_step Returning z l =
      let e = sym (latest-said st q g return_kind tt) in
      said_step Returning l (idle refl refl (subst (λ (x : Message). T (not (is_take x))) e (unfold saying in tt)))

-- ---- a message received

module _ (st : Start) (q : Queue) (m : Message) (w : New st q m) (fit : Fit st) where
  lasts-put : set (lasts q) m.sender m.counter ≡ lasts (put stamp m q)
  lasts-put =
      let a = w.proper.sender in
      let b = fit.few in
      set-list_from 16 (λ r. last r q) (λ r. last r (put stamp m q)) m.sender m.counter (omega arith)
      (last_new st q m w)
      (λ r l d. last-put_other m q r d)

  abbrev larger : ℕ
  larger = max (clock q) m.counter

  abbrev p : Queue
  p = put stamp m q

  -- acknowledged or not
  clock-came : (b : Bool) → cond b (larger + 1) larger ≡ clock (cond b (say st ack_kind p) p)
  clock-came true = ap (λ (x : ℕ). x + 1) (sym (clock-put m q)) ∙ clock-said st p fit ack_kind
  clock-came false = sym (clock-put m q)

  lasts-came : (b : Bool) → let heard = set (lasts q) m.sender m.counter in cond b (set heard st.own (cond b (larger + 1) larger)) heard ≡ lasts (cond b (say st ack_kind p) p)
  lasts-came true = ap₂ (λ (l : List ℕ) (x : ℕ). set l st.own (x + 1)) lasts-put (sym (clock-put m q)) ∙ lasts-said st p fit ack_kind
  lasts-came false = lasts-put

  came_is : Sorted st q → came (image st q) m ≡ unsettled st q (accept st q m) (arrived st q m) (phase st q) (order st q)
  unfolding came accept image
  came_is g =
      ap made (ap (λ (v : View). acks v m) (image-view st q g)) ∙ go (acks (view st q) m)
    where
      made : Bool → Post
      made b =
          let heard = set (lasts q) m.sender m.counter in
          let c = cond b (larger + 1) larger in
          remade (image st q) c (cond b (set heard st.own c) heard) (waiting_with (image st q) m) (phase st q) (order st q)

      go : (b : Bool) → made b ≡ unsettled st q (cond b (say st ack_kind p) p) (arrived st q m) (phase st q) (order st q)
      go b = λ i.
          remade (image st q) (clock-came b i) (lasts-came b i) (cond (counted m) (put stamp m (image-waiting st q i)) (image-waiting st q i)) (phase st q) (order st q)

-- the own take stands as it stood
module _ (st : Start) (q : Queue) (m : Message) (k : Fitting st q) (w : New st q m) where
  abbrev sorted : Sorted st q
  sorted = k.kept.good.sorted

  into : (a : Message) → In a (waiting st q) → In a (arrived st q m)
  into a i = cond_both (In a) (counted m) (put stamp m (waiting st q)) (waiting st q) (λ c. put_in stamp m a (waiting st q) (inr i)) (λ n. i)

  out : (a : Message) → In a (arrived st q m) → T (by st.own a) → In a (waiting st q)
  out a i o =
      cond_both (λ l. In a l → In a (waiting st q)) (counted m) (put stamp m (waiting st q)) (waiting st q)
      (λ c j.
      ⊎_elim
      (λ e. absurd (w.other (sym (ap (λ (x : Message). x.sender) e) ∙ eqb→eq a.sender st.own o)))
      (λ x. x)
      (in_put stamp m a (waiting st q) j))
      (λ n j. j)
      i

  stands : Stand st q (accept st q m) (arrived st q m) (phase st q) (order st q)
  stands =
      let l = latest st q in
      let e = latest_accepted st q m w.other in
      let r = sorted.rising in
      let p = k.kept.paid in
      test (is_take l)
      (λ t.
      test (heard st q l)
      (λ h. numbered (rw e (phase_numbered st q t h)) (rw e (order_numbered st q t h)) (rw e t) (rw e (latest_in st q t).0) (rw e h))
      (λ n.
      asked (phase-asked st q t n) (rw e t) (subst (λ (x : Message). Only st.own x (arrived st q m)) (sym e) (record {
        here = into l (latest_waits st q r p t n);
        own_take_lem = yes_and (by st.own l) _ (latest_in st q t).1 t;
        alone = λ a i o. waits_latest st q r p a (out a i (and_l (by st.own a) _ o)) o;
      }))))
      (λ n. idle (phase_idle st q n) (order_idle st q n) (rw e n))

  pub receive_step : Sorted st (accept st q m) → clock (accept st q m) ≤ last_counter → settle (came (image st q) m) ≡ image st (accept st q m)
  receive_step s c =
      ap settle (came_is st q m w sorted.fit sorted)
      ∙ settles_to_image st q (accept st q m) (arrived st q m) (between_accept st q sorted m w) s c (phase st q) (order st q) stands
