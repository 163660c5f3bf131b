-- Value and missing of the record of a queue are those of the queue. Assumes nothing.
use mathlib.Core.Path.{◌≡◌, refl, ap, ap₂, ◌∙◌}
use mathlib.Core.Bool.{Bool, not, cond, ◌&&◌}
use Prim.Native.Nat.{ℕ, ◌^◌}
use lib.Dec.{T, ltb, eqb}
use lib.Ieee.Bits.{is_true, is_false}
use mir.Facts.{yes_and}
use Rattle.laws.specs.Below.{one?, count_to, bits_to}
use Rattle.laws.proofs.Tests.{test}
use Rattle.laws.proofs.BelowLaws.{sum_to_cong}
use Rattle.frame.specs.Message.{stamp_of, stamp, by}
use Rattle.calls.specs.declared.Start.{Start}
use Rattle.queue.specs.Queue.{Queue, waiting, latest, phase, value, lacks}
use Rattle.calls.specs.Replies.{value_call, missing_call, worth, lacking}
use Rattle.queue.specs.Calls.{on_queue}
use Rattle.queue.proofs.Good.{Sorted}
use Rattle.queue.proofs.Granted.{latest_in}
use Rattle.queue.proofs.Phases.{asked-latest}
use Rattle.queue.proofs.Waiting.{waits_latest, latest_waits}
use Rattle.queue.proofs.Fitting.{Fitting}
use Rattle.post.specs.Calls.{ValueTold, MissingTold}
use Rattle.post.specs.Sound.{sound}
use Rattle.post.specs.Calls as post
use Rattle.post.proofs.Own.Takes.{stamp_of_own}
use Rattle.beside.specs.Image.{image}
use Rattle.beside.specs.OnRecord.{on_record}
use Rattle.beside.proofs.ImageParts.{image-waiting, image-last}
use Rattle.beside.proofs.Answers.{Same}

module _ (st : Start) (q : Queue) (k : Fitting st q) (s : T (sound (image st q))) where
  abbrev g : Sorted st q
  g = k.kept.good.sorted

  pub value_same : Same st (on_record (image st q) value_call) (on_queue st q value_call)
  unfolding on_record on_queue post.valued value
  value_same =
      let e : post.valued (image st q) ≡ record { number = 0; value = value st q } = rw (is_true (sound (image st q)) s) (unfold image in refl) in
      record { next = refl; reply = ap (λ (v : ValueTold). worth v.number v.value) e }

  -- the stamp of the own take that waits
  own_stamp_lem : T (eqb (phase st q) 1) → post.own_stamp st.own (waiting st q) ≡ stamp (latest st q)
  own_stamp_lem y =
      let h = asked-latest st q y in
      stamp_of_own st.own (waiting st q) (latest st q) (record {
        here = latest_waits st q g.rising k.kept.paid h.0 h.1;
        own_take_lem = yes_and (by st.own (latest st q)) _ (latest_in st q h.0).1 h.0;
        alone = waits_latest st q g.rising k.kept.paid;
      })

  lacks-same : (r : ℕ) → post.lacks (image st q) r ≡ lacks st q r
  unfolding post.lacks lacks image
  lacks-same r =
      test (eqb (phase st q) 1)
      (λ y.
      ap₂ (λ (c t : ℕ). eqb (phase st q) 1 && (not (eqb r st.own) && ltb (stamp_of c r) t))
      (image-last st q g r)
      (ap (post.own_stamp st.own) (image-waiting st q) ∙ own_stamp_lem y))
      (λ n. rw (is_false (eqb (phase st q) 1) n))

  set_same : bits_to (image st q).posts (post.lacks (image st q)) ≡ bits_to st.posts (lacks st q)
  unfolding image
  set_same = sum_to_cong st.posts _ _ (λ r l. ap (λ (b : Bool). cond b (2 ^ r) 0) (lacks-same r))

  count_same : count_to (image st q).posts (post.lacks (image st q)) ≡ count_to st.posts (lacks st q)
  unfolding image
  count_same = sum_to_cong st.posts _ _ (λ r l. ap one? (lacks-same r))

  pub missing_same : Same st (on_record (image st q) missing_call) (on_queue st q missing_call)
  unfolding on_record on_queue post.missed
  missing_same =
      let e : post.missed (image st q) ≡ record { number = 0; set = bits_to st.posts (lacks st q); count = count_to st.posts (lacks st q) } =
      rw (is_true (sound (image st q)) s, set_same, count_same)
      in
      record { next = refl; reply = ap (λ (m : MissingTold). lacking m.number m.set m.count) e }
