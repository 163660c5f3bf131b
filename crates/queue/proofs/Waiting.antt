-- What waits in a queue, and what of the post itself waits with its latest take. Assumes nothing.
use mathlib.Core.Path.{◌≡◌}
use mathlib.Core.Logic.{◌⊎◌, inl, inr, ⊎_elim}
use mathlib.Core.Bool.{not}
use native.Mathlib.Omega.{arith}
use lib.Dec.{T, T_not}
use mir.Facts.{yes_and}
use Rattle.laws.specs.Lists.{In, Rising}
use Rattle.laws.proofs.Tests.{test, and_l, and_r, or_l}
use Rattle.laws.proofs.ListLaws.{in_keep, keep_in}
use Rattle.laws.proofs.RisingLaws.{rising_keep}
use Rattle.frame.specs.declared.Message.{Message}
use Rattle.frame.specs.Message.{is_take, counted, stamp, by, own_take}
use Rattle.calls.specs.declared.Start.{Start}
use Rattle.queue.specs.Queue.{Queue, heard, settled, waiting, latest}
use Rattle.queue.proofs.Heard.{heard_at, at_heard, settled_in, in_settled}
use Rattle.queue.proofs.Granted.{take_cast, grants_in, latest_most, latest_in}
use Rattle.queue.proofs.Marks.{Paid}

module _ (st : Start) (q : Queue) where
  pub waiting_in : (m : Message) → In m (waiting st q) → In m q × T (counted m) × T (not (heard st q m))
  unfolding waiting
  waiting_in m i =
      let k = keep_in _ m q i in
      (k.0, and_l (counted m) _ k.1, and_r (counted m) _ k.1)

  pub in_waiting : (m : Message) → In m q → T (counted m) → T (not (heard st q m)) → In m (waiting st q)
  unfolding waiting
  in_waiting m i c n = in_keep _ m q i (yes_and (counted m) _ c n)

  pub waiting_rising : Rising stamp q → Rising stamp (waiting st q)
  unfolding waiting
  waiting_rising r = rising_keep stamp _ q r

  -- a take or return is settled or waits, never both
  pub settled-or_waits : (m : Message) → In m q → T (counted m) → In m (settled st q) ⊎ In m (waiting st q)
  settled-or_waits m i c = test (heard st q m) (λ y. inl (in_settled st q m i c y)) (λ n. inr (in_waiting m i c n))

  pub not_both : (m : Message) → In m (waiting st q) → In m (settled st q) → ⊥
  not_both m i j = T_not (heard st q m) (waiting_in m i).2 (settled_in st q m j).2

-- the own takes and returns
module _ (st : Start) (q : Queue) (r : Rising stamp q) (p : Paid st q) where
  -- an own take that waits is the latest
  pub waits_latest : (m : Message) → In m (waiting st q) → T (own_take st.own m) → m ≡ latest st q
  waits_latest m i o =
      let w = waiting_in st q m i in
      ⊎_elim
      (λ e. e)
      (λ j. absurd (T_not (heard st q m) w.2 (grants_in st q m j).heard_there))
      (p m w.0 (and_l (by st.own m) _ o) (and_r (by st.own m) _ o))

  -- where the latest is no take, no own take waits
  pub no_take_waits : T (not (is_take (latest st q))) → (m : Message) → In m (waiting st q) → T (own_take st.own m) → ⊥
  no_take_waits n m i o = T_not (is_take (latest st q)) n (take_cast (waits_latest m i o) (and_r (by st.own m) _ o))

  pub latest_waits : T (is_take (latest st q)) → T (not (heard st q (latest st q))) → In (latest st q) (waiting st q)
  latest_waits t n = in_waiting st q (latest st q) (latest_in st q t).0 (or_l (is_take (latest st q)) _ t) n

  -- once it is settled, nothing of the post waits
  pub none_waits : T (heard st q (latest st q)) → (m : Message) → In m (waiting st q) → T (by st.own m) → ⊥
  none_waits h m i o =
      let w = waiting_in st q m i in
      let l = latest_most st q m r w.0 o w.1 in
      T_not (heard st q m) w.2 (at_heard st q m (λ x lx d. let z = heard_at st q (latest st q) h x lx d in omega arith))
