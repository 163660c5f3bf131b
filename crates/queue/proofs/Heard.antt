-- Heard, settled and granted, by what they say of a message. Assumes nothing.
use mathlib.Core.Path.{◌≡◌}
use mathlib.Core.Logic.{⊎_elim}
use Prim.Native.Nat.{ℕ, ◌≤◌, ◌<◌}
use lib.Dec.{T, leb, eqb, leb→le, le→leb, eqb→eq}
use mir.Facts.{yes_and, or_yes}
use Rattle.laws.specs.Lists.{In, Rising}
use Rattle.laws.proofs.Tests.{test, and_l, and_r, or_l, or_r, neqb→ne}
use Rattle.laws.proofs.BelowLaws.{all_to_at, at_all_to}
use Rattle.laws.proofs.ListLaws.{in_keep, keep_in}
use Rattle.laws.proofs.RisingLaws.{rising_keep}
use Rattle.frame.specs.declared.Message.{Message}
use Rattle.frame.specs.Message.{is_take, counted, stamp}
use Rattle.calls.specs.declared.Start.{Start}
use Rattle.queue.specs.Queue.{Queue, last_stamp, heard, settled, takes}

module _ (st : Start) (q : Queue) where
  pub heard_at : (m : Message) → T (heard st q m) → (r : ℕ) → r < st.posts → (r ≡ st.own → ⊥) → stamp m ≤ last_stamp r q
  unfolding heard
  heard_at m t r l d =
      ⊎_elim
      (λ e. absurd (d (eqb→eq r st.own e)))
      (leb→le (stamp m) (last_stamp r q))
      (or_yes (eqb r st.own) (leb (stamp m) (last_stamp r q)) (all_to_at st.posts _ t r l))

  pub at_heard : (m : Message) → ((r : ℕ) → r < st.posts → (r ≡ st.own → ⊥) → stamp m ≤ last_stamp r q) → T (heard st q m)
  unfolding heard
  at_heard m h =
      at_all_to st.posts _ (λ r l.
      test (eqb r st.own) (or_l (eqb r st.own) _)
      (λ n. or_r (eqb r st.own) _ (le→leb (stamp m) (last_stamp r q) (h r l (neqb→ne r st.own n)))))

  pub settled_in : (m : Message) → In m (settled st q) → In m q × T (counted m) × T (heard st q m)
  unfolding settled
  settled_in m i =
      let k = keep_in _ m q i in
      (k.0, and_l (counted m) _ k.1, and_r (counted m) _ k.1)

  pub in_settled : (m : Message) → In m q → T (counted m) → T (heard st q m) → In m (settled st q)
  unfolding settled
  in_settled m i c h = in_keep _ m q i (yes_and (counted m) _ c h)

  pub takes_in : (m : Message) → In m (takes st q) → In m q
  takes_in m i = (settled_in m (keep_in is_take m (settled st q) i).0).0

  pub settled_rising : Rising stamp q → Rising stamp (settled st q)
  unfolding settled
  settled_rising r = rising_keep stamp _ q r

  pub takes_rising : Rising stamp q → Rising stamp (takes st q)
  takes_rising r = rising_keep stamp is_take (settled st q) (settled_rising r)
