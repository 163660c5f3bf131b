-- Once a record with what is new has settled, it is the record of the later queue. Assumes nothing.
use mathlib.Core.Path.{◌≡◌, refl, sym, ap, ap₂, ◌∙◌, subst}
use mathlib.Core.Bool.{Bool, true, false, not, cond}
use mathlib.Core.List.{List}
use Prim.Native.Nat.{ℕ, ◌+◌, ◌^◌, ◌≤◌, ◌<◌}
use native.Mathlib.Omega.{arith}
use lib.Dec.{T, leb, eqb, T_not, not_T, leb→le, le→leb, eqb→eq}
use lib.Ieee.Bits.{is_true, is_false}
use Rattle.laws.specs.Lists.{In, keep, many, leading}
use Rattle.laws.proofs.Tests.{test, same_test}
use Rattle.laws.proofs.ListLaws.{in_keep, keep_in, keep_cong}
use Rattle.laws.proofs.RisingLaws.{rising_keep}
use Rattle.laws.proofs.LeastLaws.{least_cong}
use Rattle.laws.proofs.LeadingLaws.{under, left_of, leading-keep, left-keep}
use Rattle.frame.specs.declared.Message.{Message}
use Rattle.frame.specs.Message.{is_take, is_return, last_counter, stamp_of, stamp}
use Rattle.calls.specs.declared.Start.{Start}
use Rattle.queue.specs.Queue.{Queue, clock, last, last_stamp, floor_of, heard, settled, waiting, number, room, free, latest, phase, order}
use Rattle.queue.proofs.Floors.{heard-floor}
use Rattle.queue.proofs.Good.{Sorted}
use Rattle.queue.proofs.Grow.{heard_grows, number-stays, free_grows}
use Rattle.queue.proofs.Granted.{in_takes}
use Rattle.queue.proofs.Phases.{phase_idle, order_idle, phase-asked, order-asked, phase_numbered, order_numbered, number_some}
use Rattle.queue.proofs.Settling.{Between, waits_on, count_after, number-after}
use Rattle.post.specs.declared.Post.{Post}
use Rattle.post.specs.Record.{waiting_of, floor, record_of, remade}
use Rattle.post.specs.Settle.{own_number, order_after, tallied, phase_after, in_phase, settle}
use Rattle.post.specs.Settle as post
use Rattle.post.proofs.Own.Messages.{own_number_none}
use Rattle.post.proofs.Own.Takes.{Only, number_of_own}
use Rattle.beside.specs.Image.{lasts, image}
use Rattle.beside.proofs.Listed.{list_from_at}
use Rattle.beside.proofs.ImageParts.{in_slots_lem}

-- what q counted, with the clock and the last counters of a later queue and with v in the slots
abbrev pub unsettled : Start → Queue → Queue → List Message → ℕ → ℕ → Post
unsettled st q q' v phase order = remade (image st q) (clock q') (lasts q') v phase order

-- the own take may stand in three ways: there is none, it is among v and no other is, or q has numbered it
pub data Stand (st : Start) (q q' : Queue) (v : List Message) (phase order : ℕ) : Type 0 where
  idle : phase ≡ 0 → order ≡ 0 → T (not (is_take (latest st q'))) → Stand st q q' v phase order
  asked : phase ≡ 1 → T (is_take (latest st q')) → Only st.own (latest st q') v → Stand st q q' v phase order
  numbered : phase ≡ cond (free st q (latest st q')) 3 2 → order ≡ number st q (latest st q') → T (is_take (latest st q'))
      → In (latest st q') q → T (heard st q (latest st q')) → Stand st q q' v phase order

-- a numbered take keeps its number, and gets the phase of one
keeps_order : (c : Bool) (x o : ℕ) → cond (eqb (cond c 3 2) 1) x o ≡ o
keeps_order true x o = refl
keeps_order false x o = refl

has_number : (n : ℕ) (can : Bool) → 0 < n → ◌≡◌ {A = ℕ} (cond (eqb n 0) 1 (cond can 3 2)) (cond can 3 2)
has_number n can h = rw (is_false (eqb n 0) (not_T (eqb n 0) (λ y. let e = eqb→eq n 0 y in omega arith)))

module _ (st : Start) (q q' : Queue) (v : List Message) (b : Between st q q' v) where
  abbrev gone : List Message
  gone = keep (heard st q') v

  abbrev own_latest : Message
  own_latest = latest st q'

  still_only : Only st.own own_latest v → T (heard st q' own_latest) → Only st.own own_latest gone
  still_only o h = record {
    here = in_keep (heard st q') own_latest v o.here h;
    own_take_lem = o.own_take_lem;
    alone = λ a i. o.alone a (keep_in (heard st q') a v i).0;
  }

  order-after : (ph o : ℕ) → Stand st q q' v ph o → cond (eqb ph 1) (own_number st.own (many is_take (settled st q)) gone) o ≡ order st q'
  order-after ph o (idle p e n) = rw p (e ∙ sym (order_idle st q' n))
  order-after ph o (asked p t only) =
      let k = many is_take (settled st q) in
      rw p (test (heard st q' own_latest)
      (λ h.
      let here = still_only only h in
      number_of_own st.own k gone own_latest (rising_keep stamp (heard st q') v b.rising) here
      ∙ sym (number-after st q q' v b own_latest (in_keep is_take own_latest gone here.here t))
      ∙ sym (order_numbered st q' t h))
      (λ n.
      own_number_none st.own k gone (λ a i y.
      let z = keep_in (heard st q') a v i in
      T_not (heard st q' own_latest) n (subst (λ (m : Message). T (heard st q' m)) (only.alone a z.0 y) z.1))
      ∙ sym (order-asked st q' t n)))
  order-after ph o (numbered p e t i h) =
      rw p (keeps_order (free st q own_latest) _ o
      ∙ e
      ∙ sym (number-stays st q q' b.later own_latest (in_takes st q own_latest i t h))
      ∙ sym (order_numbered st q' t (heard_grows st q q' b.later own_latest h)))

  -- there is a place exactly if the queue says so
  abbrev Rule : Bool → Type 0
  Rule can = T (is_take own_latest) → T (heard st q' own_latest) → can ≡ free st q' own_latest

  once_numbered : (can : Bool) → Rule can → T (is_take own_latest) → T (heard st q' own_latest)
      → cond (eqb (order st q') 0) 1 (cond can 3 2) ≡ phase st q'
  once_numbered can f t h =
      rw (order_numbered st q' t h) (has_number (number st q' own_latest) can (number_some st q' t h) ∙ ap (λ (b : Bool). cond b 3 2) (f t h) ∙ sym (phase_numbered st q' t h))

  phase-after : (ph o : ℕ) (can : Bool) → Rule can → Stand st q q' v ph o → phase_after ph (order st q') can ≡ phase st q'
  unfolding phase_after
  phase-after ph o can f (idle p e n) = rw p (sym (phase_idle st q' n))
  phase-after ph o can f (asked p t only) =
      rw p (test (heard st q' own_latest) (once_numbered can f t) (λ n. rw (order-asked st q' t n) (sym (phase-asked st q' t n))))
  phase-after ph o can f (numbered p e t i h) =
      let three : Bool → ℕ = λ c. cond c 3 2 in
      let h' = heard_grows st q q' b.later own_latest h in
      test (free st q own_latest)
      (λ y.
      let z = free_grows st q q' b.later own_latest (in_takes st q own_latest i t h) y in
      rw (p ∙ ap three (is_true (free st q own_latest) y)) (sym (phase_numbered st q' t h' ∙ ap three (is_true (free st q' own_latest) z))))
      (λ x. rw (p ∙ ap three (is_false (free st q own_latest) x)) (once_numbered can f t h'))

  -- ---- the record that is to be settled: what leaves its slots, and what is left

  module _ (g : Sorted st q') (wide : clock q' ≤ last_counter) (ph o : ℕ) where
    abbrev before : Post
    before = unsettled st q q' v ph o

    floor_is : floor before ≡ floor_of st q'
    unfolding floor remade image
    floor_is =
        least_cong st.posts st.own (2 ^ 40) _ (λ r. last_stamp r q') (λ r l.
        ap (λ (c : ℕ). stamp_of c r) (list_from_at 16 (λ x. last x q') r (let z = g.fit.few in omega arith)))

    waits_are : waiting_of before ≡ v
    unfolding remade
    waits_are = in_slots_lem v

    under_heard : (m : Message) → In m v → under stamp (floor_of st q') m ≡ heard st q' m
    under_heard m i =
        let k = heard-floor st q' g wide m (b.only m i).0 in
        let f = floor_of st q' in
        same_test (leb (stamp m) f) (heard st q' m) (λ y. k.1 (leb→le (stamp m) f y)) (λ y. le→leb (stamp m) f (k.0 y))

    gone_is : post.gone before ≡ gone
    gone_is = ap₂ (leading stamp) floor_is waits_are ∙ leading-keep stamp (floor_of st q') v b.rising ∙ keep_cong (under stamp (floor_of st q')) (heard st q') v under_heard

    left_is : post.left before ≡ waiting st q'
    left_is =
        ap₂ (left_of stamp) floor_is waits_are
        ∙ left-keep stamp (floor_of st q') v b.rising
        ∙ keep_cong (λ m. not (under stamp (floor_of st q') m)) (λ m. not (heard st q' m)) v (λ m i. ap not (under_heard m i))
        ∙ sym (waits_on st q q' v b)

    count_is : (f : Message → Bool) → many f (settled st q) + many f (post.gone before) ≡ many f (settled st q')
    count_is f = ap (λ (l : List Message). many f (settled st q) + many f l) gone_is ∙ sym (count_after st q q' v b f)

    -- all but the phase
    abbrev after : ℕ → Post
    after phase = record_of st (clock q') (lasts q') (waiting st q') (many is_take (settled st q')) (many is_return (settled st q')) phase (order st q')

    tallied_is : Stand st q q' v ph o → tallied before ≡ after ph
    unfolding tallied order_after remade image
    tallied_is s =
        λ i. record_of st (clock q') (lasts q') (left_is i) (count_is is_take i) (count_is is_return i) ph (order_is i)
      where
        order_is : order_after before ≡ order st q'
        order_is = ap (λ (l : List Message). cond (eqb ph 1) (own_number st.own (many is_take (settled st q)) l) o) gone_is ∙ order-after ph o s

    -- the grant rule of the record is that of the queue
    free_is : Rule (post.free (after ph))
    unfolding post.free free room
    free_is t h = ap (λ (n : ℕ). leb n (st.places + many is_return (settled st q'))) (order_numbered st q' t h)

    pub settles_to_image : Stand st q q' v ph o → settle before ≡ image st q'
    unfolding settle image
    settles_to_image s =
        ap (λ (t : Post). in_phase t (phase_after t.phase t.order (post.free t))) (tallied_is s)
        ∙ ap after (phase-after ph o (post.free (after ph)) free_is s)
