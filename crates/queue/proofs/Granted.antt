-- The granted takes, the own latest take or return, and the phase. Assumes nothing.
use mathlib.Core.Path.{◌≡◌, refl, sym, ap, ◌∙◌, subst}
use mathlib.Core.Logic.{⊎_elim}
use mathlib.Core.Bool.{Bool, true, false, not, cond, ◌&&◌}
use mathlib.Core.List.{List}
use Prim.Native.Nat.{ℕ, ◌≤◌}
use lib.Dec.{T, eqb, not_T, eqb→eq, eqb_refl}
use mir.Facts.{yes_and}
use Rattle.laws.specs.Lists.{In, keep, final, Rising, put}
use Rattle.laws.proofs.Tests.{and_l, and_r, or_l}
use Rattle.laws.proofs.ListLaws.{in_keep, keep_in, final_in, final_snoc}
use Rattle.laws.proofs.RisingLaws.{rising_keep, final_most}
use Rattle.frame.specs.declared.Message.{Message}
use Rattle.frame.specs.Message.{msg, ack_kind, is_take, is_return, counted, stamp, by}
use Rattle.calls.specs.declared.Start.{Start}
use Rattle.queue.specs.Queue.{Queue, heard, settled, takes, free, grants, latest, phase}
use Rattle.queue.specs.Calls.{saying, say, accept}
use Rattle.queue.proofs.Good.{Sorted}
use Rattle.queue.proofs.Parts.{keep-say-last, keep-accept_no}
use Rattle.queue.proofs.Heard.{settled_in, in_settled, takes_rising}
use Rattle.queue.proofs.Grow.{Later, heard_grows, free_grows}

-- what a granted take is
pub record Granted (st : Start) (q : Queue) (m : Message) : Type 0 where
  pub here : In m q
  pub own : T (by st.own m)
  pub take : T (is_take m)
  pub heard_there : T (heard st q m)
  pub fits : T (free st q m)

pub take_cast : {a b : Message} → a ≡ b → T (is_take a) → T (is_take b)
take_cast e t = subst (λ (x : Message). T (is_take x)) e t

-- the post's own takes and returns
abbrev own_counted : Start → Message → Bool
own_counted st m = by st.own m && counted m

-- what stands for the latest before there is one
abbrev before : Start → Message
before st = msg 2 st.own 0

module _ (st : Start) (q : Queue) where
  pub in_takes : (m : Message) → In m q → T (is_take m) → T (heard st q m) → In m (takes st q)
  in_takes m i t h = in_keep is_take m (settled st q) (in_settled st q m i (or_l (is_take m) (is_return m) t) h) t

  pub grants_in : (m : Message) → In m (grants st q) → Granted st q m
  unfolding grants
  grants_in m i =
      let a = keep_in _ m (takes st q) i in
      let b = keep_in is_take m (settled st q) a.0 in
      let c = settled_in st q m b.0 in
      record {
        here = c.0;
        own = and_l (by st.own m) _ a.1;
        take = b.1;
        heard_there = c.2;
        fits = and_r (by st.own m) _ a.1;
      }

  pub in_grants : (m : Message) → Granted st q m → In m (grants st q)
  unfolding grants
  in_grants m g =
      in_keep _ m (takes st q) (in_takes m g.here g.take g.heard_there)
      (yes_and (by st.own m) _ g.own g.fits)

  pub grants_rising : Rising stamp q → Rising stamp (grants st q)
  unfolding grants
  grants_rising r = rising_keep stamp _ (takes st q) (takes_rising st q r)

  -- ---- the latest

  pub latest_most : (m : Message) → Rising stamp q → In m q → T (by st.own m) → T (counted m) → stamp m ≤ stamp (latest st q)
  unfolding latest
  latest_most m r i o c =
      final_most stamp (keep (own_counted st) q) (before st) m (rising_keep stamp (own_counted st) q r)
      (in_keep (own_counted st) m q i (yes_and (by st.own m) _ o c))

  pub latest_in : T (is_take (latest st q)) → In (latest st q) q × T (by st.own (latest st q))
  unfolding latest
  latest_in t =
      ⊎_elim
      (λ e. absurd (take_cast e t))
      (λ i. let k = keep_in (own_counted st) (latest st q) q i in (k.0, and_l (by st.own (latest st q)) _ k.1))
      (final_in (keep (own_counted st) q) (before st))

  -- ---- the phase

  three_is : eqb (phase st q) 3 ≡ (is_take (latest st q) && (heard st q (latest st q) && free st q (latest st q)))
  unfolding phase
  three_is = go (is_take (latest st q)) (heard st q (latest st q)) (free st q (latest st q))
    where
      go : (a b c : Bool) → eqb (cond a (cond b (cond c 3 2) 1) 0) 3 ≡ (a && (b && c))
      go true true true = refl
      go true true false = refl
      go true false c = refl
      go false b c = refl

  pub idle_latest : T (eqb (phase st q) 0) → T (not (is_take (latest st q)))
  unfolding phase
  idle_latest = go (is_take (latest st q)) (heard st q (latest st q)) (free st q (latest st q))
    where
      go : (a b c : Bool) → T (eqb (cond a (cond b (cond c 3 2) 1) 0) 0) → T (not a)
      go true true true t = t
      go true true false t = t
      go true false c t = t
      go false b c t = tt

  pub holding-latest : T (eqb (phase st q) 3) → In (latest st q) (grants st q)
  holding-latest y =
      let m = latest st q in
      let t = subst T three_is y in
      let u = and_r (is_take m) _ t in
      let k = latest_in (and_l (is_take m) _ t) in
      in_grants m (record {
        here = k.0;
        own = k.1;
        take = and_l (is_take m) _ t;
        heard_there = and_l (heard st q m) _ u;
        fits = and_r (heard st q m) _ u;
      })

  pub latest-holding : In (latest st q) (grants st q) → T (eqb (phase st q) 3)
  latest-holding i =
      let m = latest st q in
      let g = grants_in m i in
      subst T (sym three_is)
      (yes_and (is_take m) _ g.take (yes_and (heard st q m) _ g.heard_there g.fits))

pub grants_grow : (st : Start) (q q' : Queue) → Later st q q' → (m : Message) → In m (grants st q) → In m (grants st q')
grants_grow st q q' l m i =
    let g = grants_in st q m i in
    in_grants st q' m (record {
      here = l.keeps m g.here;
      own = g.own;
      take = g.take;
      heard_there = heard_grows st q q' l m g.heard_there;
      fits = free_grows st q q' l m (in_takes st q m g.here g.take g.heard_there) g.fits;
    })

-- ---- after a call

module _ (st : Start) (q : Queue) where
  pub latest-said : Sorted st q → (kind : ℕ) → T (counted (msg kind st.own 0)) → latest st (say st kind q) ≡ saying st kind q
  unfolding latest saying
  latest-said g kind c =
      ap (λ (l : List Message). final l (before st))
      (keep-say-last st q (own_counted st) g kind (yes_and (eqb st.own st.own) _ (eqb_refl st.own) c))
      ∙ final_snoc (keep (own_counted st) q) (saying st kind q) (before st)

  pub latest_accepted : (m : Message) → (m.sender ≡ st.own → ⊥) → latest st (accept st q m) ≡ latest st q
  unfolding latest saying
  latest_accepted m d =
      let a = saying st ack_kind (put stamp m q) in
      ap (λ (l : List Message). final l (before st))
      (keep-accept_no st q (own_counted st) m
      (not_T (own_counted st m) (λ y. d (eqb→eq m.sender st.own (and_l (by st.own m) _ y))))
      (not_T (own_counted st a) (and_r (by st.own a) (counted a))))
