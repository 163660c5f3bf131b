-- Each call on the record of a queue answers as the call on the queue does, and leaves the record of the queue after it. Assumes nothing.
use mathlib.Core.Path.{◌≡◌, refl, sym, ap, ◌∙◌, subst}
use mathlib.Core.Bool.{Bool, true, false, not, cond, ◌&&◌}
use mathlib.Core.List.{List}
use Prim.Native.Nat.{ℕ, ◌+◌, ◌≤◌, max}
use lib.Dec.{T, eqb, eqb→eq, eqb_refl}
use lib.ListN.{length}
use lib.Ieee.Bits.{is_true}
use Rattle.laws.specs.Ladder.{Row, refusal, unless}
use Rattle.laws.specs.Lists.{put}
use Rattle.frame.specs.declared.Message.{Message}
use Rattle.frame.specs.Message.{msg, ack_kind, last_counter, stamp}
use Rattle.frame.specs.Frame.{over, fields_of}
use Rattle.calls.specs.declared.Start.{Start}
use Rattle.calls.specs.declared.Own.{Own}
use Rattle.calls.specs.Own.{row_of}
use Rattle.calls.specs.View.{View, acks}
use Rattle.calls.specs.Table.{own_tests, receive_tests}
use Rattle.calls.specs.Replies.{own_call, receive_call, told, Answer, refused}
use Rattle.calls.proofs.Passing.{own_passed}
use Rattle.queue.specs.Queue.{Queue, clock, phase}
use Rattle.queue.specs.Calls.{view, saying, say, accept, grant_came, answer, said, received, on_queue}
use Rattle.queue.proofs.Good.{Sorted}
use Rattle.queue.proofs.Changes.{accepted, receives_new}
use Rattle.queue.proofs.Clocks.{clock-put}
use Rattle.queue.proofs.Fitting.{Fitting, fitting_change}
use Rattle.post.specs.declared.Post.{Post}
use Rattle.post.specs.Settle.{settle}
use Rattle.post.specs.Sound.{sound}
use Rattle.post.specs.Calls.{view_of}
use Rattle.post.specs.Calls as post
use Rattle.beside.specs.Image.{image}
use Rattle.beside.specs.OnRecord.{answered, on_record}
use Rattle.beside.proofs.ImageParts.{image-view}
use Rattle.beside.proofs.Steps.{saying_is, own_step, receive_step}

pub record Same (st : Start) (a : Answer Post) (b : Answer Queue) : Type 0 where
  pub next : a.next ≡ image st b.next
  pub reply : a.reply ≡ b.reply

-- the refusals of a sound record are those of the rows after the first
past_one : (t : Bool) (n : ℕ) → T t → cond (not t) 1 n ≡ n
past_one t n y = rw (is_true t y)

-- done, with the queue q before and q' after
same-done : (st : Start) (q q' : Queue) (p' : Post) (wrote : Bool) (bytes bytes' : List ℕ) → p' ≡ image st q' → bytes ≡ bytes'
    → Same st (answered (record { gives = post.answer (image st q).phase p' wrote; leaves = bytes })) (answer st q q' wrote bytes')
unfolding grant_came image
same-done st q q' p' wrote bytes bytes' e d = record {
  next = e;
  reply = λ i. told (record { number = 0; wrote = wrote; granted = not (eqb (phase st q) 3) && eqb (e i).phase 3; lent = d i });
}

-- done or refused, by the same number
same-unless : (st : Start) (q : Queue) (lent : List ℕ) (rows rows' : List Row) (x : post.Outcome) (u : Answer Queue) → refusal rows ≡ refusal rows'
    → (refusal rows' ≡ 0 → Same st (answered x) u) → Same st (answered (unless rows (post.stays (image st q) lent) x)) (unless rows' (refused q lent) u)
unfolding unless
same-unless st q lent rows rows' x u e h =
    let n = refusal rows' in
    subst (λ (z : ℕ). Same st (left z) (cond (eqb n 0) u (refused q lent n))) (sym e) (go (eqb n 0) (λ y. h (eqb→eq n 0 y)))
  where
    left : ℕ → Answer Post
    left z = answered (cond (eqb z 0) x (post.stays (image st q) lent z))

    go : (b : Bool) → (T b → Same st (answered x) u)
        → let n = refusal rows' in
        Same st (answered (cond b x (post.stays (image st q) lent n))) (cond b u (refused q lent n))
    go true f = f tt
    go false f = record { next = refl; reply = refl }

module _ (st : Start) (q : Queue) (k : Fitting st q) (s : T (sound (image st q))) where
  abbrev p : Post
  p = image st q

  abbrev g : Sorted st q
  g = k.kept.good.sorted

  -- ---- an own take or return

  own_bytes : (kind : ℕ) (lent : List ℕ) → over p.feeder (post.saying p kind) lent ≡ over st.feeder (saying st kind q) lent
  unfolding image
  own_bytes kind lent = ap (λ (m : Message). over st.feeder m lent) (saying_is st kind q)

  pub own_same : (o : Own) (lent : List ℕ) → Same st (on_record (image st q) (own_call o lent)) (on_queue st q (own_call o lent))
  unfolding on_record on_queue post.own_rows said
  own_same o lent =
      let rows = own_tests o (view st q) (length lent) in
      same-unless st q lent (post.own_rows o p (length lent)) rows _ _
      (past_one (sound p) _ s ∙ ap (λ (v : View). refusal (own_tests o v (length lent))) (image-view st q g))
      (λ z.
      let h = own_passed o (view st q) (length lent) z in
      same-done st q (say st (row_of o).kind q) _ true _ _ (own_step st q k o (rw h.phase (eqb_refl (row_of o).from)) h.clock)
      (own_bytes (row_of o).kind lent))

  -- ---- a message received

  -- it is acknowledged by both or by neither
  same-ack : (m : Message) → acks (view_of p) m ≡ acks (view st q) m
  same-ack m = ap (λ (v : View). acks v m) (image-view st q g)

  same-heard : (m : Message) (lent : List ℕ) → settle (post.came p m) ≡ image st (accept st q m) → Same st (answered (post.heard_from p m lent)) (received st q m lent)
  unfolding post.heard_from received image
  same-heard m lent e = subst (λ (b : Bool). Same st (left b) (received st q m lent)) (sym (same-ack m)) (go (acks (view st q) m))
    where
      -- what the record writes, by whether it acknowledges
      left : Bool → Answer Post
      left b =
          let c = max (clock q) m.counter in
          answered (record {
            gives = post.answer (phase st q) (settle (post.came p m)) b;
            leaves = cond b (over st.feeder (msg ack_kind st.own (cond b (c + 1) c)) lent) lent;
          })

      bytes : (b : Bool) → let c = max (clock q) m.counter in
          cond b (over st.feeder (msg ack_kind st.own (cond b (c + 1) c)) lent) lent ≡ cond b (over st.feeder (saying st ack_kind (put stamp m q)) lent) lent
      bytes true =
          ap (λ (c : ℕ). over st.feeder (msg ack_kind st.own (c + 1)) lent) (sym (clock-put m q))
          ∙ ap (λ (a : Message). over st.feeder a lent) (saying_is st ack_kind (put stamp m q))
      bytes false = refl

      go : (b : Bool) → Same st (left b) (answer st q (accept st q m) b (cond b (over st.feeder (saying st ack_kind (put stamp m q)) lent) lent))
      go b = same-done st q (accept st q m) _ b _ _ e (bytes b)

  pub receive_same : (f lent : List ℕ) → (fields_of f).message.counter ≤ last_counter
      → Same st (on_record (image st q) (receive_call f lent)) (on_queue st q (receive_call f lent))
  unfolding on_record on_queue post.receive_rows
  receive_same f lent c =
      let m = (fields_of f).message in
      same-unless st q lent (post.receive_rows p f (length lent)) (receive_tests (view st q) f (length lent)) _ _
      (past_one (sound p) _ s ∙ ap (λ (v : View). refusal (receive_tests v f (length lent))) (image-view st q g))
      (λ z.
      let w = receives_new st q f (length lent) z in
      let k' = fitting_change st (receive_call f lent) q (accept st q m) c (accepted w) k in
      same-heard m lent (receive_step st q m k w k'.kept.good.sorted k'.width))
