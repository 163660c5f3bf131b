-- The record of a queue that calls made is sound. Assumes nothing.
use mathlib.Core.Path.{◌≡◌, refl, sym, ap, ◌∙◌, subst}
use mathlib.Core.Bool.{Bool, true, false, not, cond, ◌&&◌}
use mathlib.Core.List.{List}
use Prim.Native.Nat.{ℕ, ◌+◌, ◌-◌, ◌≤◌, ◌<◌}
use native.Mathlib.Omega.{arith}
use lib.Dec.{T, leb, eqb, T_not, le→leb, nleb→lt, eqb→eq, leb→le}
use lib.ListN.{length, drop, replicate, length-replicate}
use lib.Seq.{drop_at}
use lib.Ieee.Bits.{is_true}
use mir.Facts.{yes_and}
use Rattle.laws.specs.Lists.{In, many, Rising, upto}
use Rattle.laws.proofs.Tests.{test}
use Rattle.laws.proofs.BelowLaws.{sum_to_cong}
use Rattle.laws.proofs.ScanLaws.{many-length}
use Rattle.laws.proofs.CountLaws.{length_none}
use Rattle.frame.specs.declared.Message.{Message}
use Rattle.frame.specs.Message.{blank, is_take, is_return, stamp, by, own_take, own_return}
use Rattle.calls.specs.declared.Start.{Start}
use Rattle.queue.specs.Queue.{Queue, clock, last, floor_of, heard, settled, waiting, takes, number, room, free, latest, phase, order}
use Rattle.queue.proofs.Floors.{heard-floor}
use Rattle.queue.proofs.Good.{Sorted, le_last}
use Rattle.queue.proofs.Heard.{at_heard}
use Rattle.queue.proofs.Granted.{latest_most, latest_in}
use Rattle.queue.proofs.Phases.{phase_idle, order_idle, phase-asked, order-asked, phase_numbered, order_numbered, number_some, phase_small}
use Rattle.queue.proofs.Waiting.{waiting_in, waiting_rising, latest_waits}
use Rattle.queue.proofs.Clocks.{last_none, last_le_clock}
use Rattle.queue.proofs.Fitting.{Fitting}
use Rattle.queue.proofs.Totals.{total_fits, one_take, no_take, none_own, waits_few}
use Rattle.post.specs.Record.{last_of, in_slots}
use Rattle.post.specs.Settle as post
use Rattle.post.specs.Sound.{end_kind, own_fits, own_few, order_fits, sound}
use Rattle.calls.proofs.Ranges.{Range}
use Rattle.post.proofs.Sound.Passes.{sound_passes}
use Rattle.post.proofs.Own.Takes.{end_of_own}
use Rattle.beside.specs.Image.{image}
use Rattle.beside.proofs.ImageParts.{image-waiting, image-last, image-floor}

-- ---- the rules on the own messages and on the order number, by phase

idle_fits : (phase takes returns end : ℕ) → phase ≡ 0 → takes ≡ 0 → returns ≤ 1 → T (own_fits phase takes returns end)
unfolding own_fits
idle_fits phase takes returns end p t r = rw (p, t) (le→leb returns 1 r)

asked_fits : (phase takes returns end : ℕ) → phase ≡ 1 → takes ≡ 1 → returns ≤ 1 → end ≡ 1 → T (own_fits phase takes returns end)
unfolding own_fits
asked_fits phase takes returns end p t r e = rw (p, t, e) (yes_and (leb returns 1) true (le→leb returns 1 r) tt)

numbered_fits : (phase takes returns end : ℕ) (c : Bool) → phase ≡ cond c 3 2 → takes ≡ 0 → returns ≡ 0 → T (own_fits phase takes returns end)
unfolding own_fits
numbered_fits phase takes returns end true p t r = rw (p, t, r) tt
numbered_fits phase takes returns end false p t r = rw (p, t, r) tt

-- the rule on the own messages among ms
abbrev own_fit : Start → Queue → List Message → Bool
own_fit st q ms = own_fits (phase st q) (many (own_take st.own) ms) (many (own_return st.own) ms) (end_kind st.own 0 ms)

low_order : (phase order takes : ℕ) (can : Bool) → phase ≤ 1 → order ≡ 0 → T (order_fits phase order takes can)
unfolding order_fits
low_order phase order takes can p o = rw (is_true (leb phase 1) (le→leb phase 1 p), o) tt

numbered_order : (phase order takes : ℕ) (can : Bool) → phase ≡ cond can 3 2 → 0 < order → order ≤ takes → T (order_fits phase order takes can)
unfolding order_fits
numbered_order phase order takes can p a b = rw p (go can)
  where
    rest : (x : Bool) → T x → T (leb 1 order && (leb order takes && x))
    rest x t = yes_and (leb 1 order) _ (le→leb 1 order a) (yes_and (leb order takes) x (le→leb order takes b) t)

    go : (c : Bool) → T (cond (leb (cond c 3 2) 1) (eqb order 0) (leb 1 order && (leb order takes && cond (eqb (cond c 3 2) 3) c (not c))))
    go true = rest true tt
    go false = rest true tt

module _ (st : Start) (q : Queue) (k : Fitting st q) where
  abbrev g : Sorted st q
  g = k.kept.good.sorted

  own_fits_lem : T (own_fit st q (waiting st q))
  own_fits_lem =
      let l = latest st q in
      test (is_take l)
      (λ t.
      test (heard st q l)
      (λ h.
      numbered_fits _ _ _ _ (free st q l) (phase_numbered st q t h) (none_own st q k h is_take)
      (none_own st q k h is_return))
      (λ n.
      asked_fits _ _ _ _ (phase-asked st q t n) (one_take st q k t n) k.own
      (end_of_own st.own 0 (waiting st q) l (waiting_rising st q g.rising) (latest_waits st q g.rising k.kept.paid t n)
      (latest_in st q t).1
      (λ a i o. let w = waiting_in st q a i in latest_most st q a g.rising w.0 o w.1)
      ∙ eqb→eq l.kind 1 t)))
      (λ n. idle_fits _ _ _ _ (phase_idle st q n) (no_take st q k n) k.own)

  order_fits_lem : T (order_fits (phase st q) (order st q) (many is_take (settled st q)) (post.free (image st q)))
  order_fits_lem =
      let l = latest st q in
      let can = post.free (image st q) in
      test (is_take l)
      (λ t.
      test (heard st q l)
      (λ h.
      let e = order_numbered st q t h in
      let s = number_some st q t h in
      let m : number st q l ≤ many is_take (settled st q) = unfold upto in many-length (λ x. leb (stamp x) (stamp l)) (takes st q) in
      let f : free st q l ≡ can = unfold free room post.free image in ap (λ (n : ℕ). leb n (st.places + many is_return (settled st q))) (sym e) in
      numbered_order _ (order st q) _ can (phase_numbered st q t h ∙ ap (λ (b : Bool). cond b 3 2) f) (omega arith) (omega arith))
      (λ n. let e = phase-asked st q t n in low_order _ _ _ can (omega arith) (order-asked st q t n)))
      (λ n. let e = phase_idle st q n in low_order _ _ _ can (omega arith) (order_idle st q n))

  -- every other post has been heard where there is none
  none_alone_lem : st.posts ≡ 1 → length (waiting st q) ≡ 0
  none_alone_lem e =
      length_none (waiting st q) (λ m i.
      T_not (heard st q m) (waiting_in st q m i).2 (at_heard st q m (λ r l d. absurd (d (let a = g.fit.mine in omega arith)))))

  above_floor : (m : Message) → In m (waiting st q) → floor_of st q < stamp m
  above_floor m i =
      let w = waiting_in st q m i in
      test (leb (stamp m) (floor_of st q))
      (λ y. absurd (T_not (heard st q m) w.2 ((heard-floor st q g k.width m w.0).1 (leb→le (stamp m) (floor_of st q) y))))
      (nleb→lt (stamp m) (floor_of st q))

  blank_rest : let s = drop (length (waiting st q)) (in_slots (waiting st q)) in s ≡ replicate (length s) blank
  blank_rest =
      let n = 62 - length (waiting st q) in
      let e = drop_at (waiting st q) (replicate n blank) (length (waiting st q)) refl in
      e ∙ ap (λ (x : ℕ). replicate x blank) (sym (ap length e ∙ length-replicate n blank))

  pub image-sound : Range st → T (sound (image st q))
  unfolding image own_few
  image-sound r =
      let w = image-waiting st q in
      let last-is = image-last st q g in
      sound_passes (image st q) (record {
        range = r;
        phase = phase_small st q;
        waits = waits_few st q k;
        absent = λ x l h. last-is x ∙ last_none st q g x h;
        clock = λ x l. subst (λ (c : ℕ). c ≤ clock q) (sym (last-is x)) (last_le_clock x q);
        fair = λ m i.
            let a = waiting_in st q m (subst (In m) w i) in
            let b = g.proper m a.0 in
            record {
              sender = b.sender;
              kind = a.1;
              low = b.counter;
              high = subst (λ (c : ℕ). m.counter ≤ c) (sym (last-is m.sender)) (le_last q m m.sender a.0 refl);
            };
        rising = subst (Rising stamp) (sym w) (waiting_rising st q g.rising);
        above = λ m i. subst (λ (f : ℕ). f < stamp m) (sym (image-floor st q g)) (above_floor m (subst (In m) w i));
        alone = none_alone_lem;
        blanks = blank_rest;
        few = λ x l d. subst (λ (ms : List Message). many (by x) ms ≤ 4) (sym w) (k.few x l d);
        own_few_lem = subst (λ (ms : List Message). T (own_fit st q ms)) (sym w) own_fits_lem;
        sum = subst (λ (n : ℕ). many is_take (settled st q) + many is_return (settled st q) + length (waiting st q) ≤ n)
            (sym (sum_to_cong 16 (last_of (image st q)) (λ x. last x q) (λ x l. last-is x))) (total_fits st q g);
        order = order_fits_lem;
      })
