-- A run of takes, returns and deliveries: each queue is as calls make it, and each post has of each other the first so many messages.
-- Assumes nothing.
use mathlib.Core.Path.{◌≡◌, refl, sym, ap, ◌∙◌, subst}
use mathlib.Core.Logic.{inl, ⊎_elim}
use mathlib.Core.Bool.{not, ◌&&◌}
use mathlib.Core.List.{List, [], ◌∷◌, ◌++◌, append_assoc}
use Prim.Native.Nat.{ℕ, ◌≤◌, ◌<◌}
use native.Mathlib.Omega.{arith}
use lib.Dec.{ltb, eqb, ltb→lt, eqb→eq}
use Rattle.laws.specs.Lists.{In, keep, Begins, put}
use Rattle.laws.proofs.Tests.{test, cond_both, and_l, and_r, neqb→ne}
use Rattle.laws.proofs.ListLaws.{in_right, keep_in, begins_refl, begins_trans, begins_drop}
use Rattle.laws.proofs.RisingLaws.{in_put, top_lt}
use Rattle.frame.specs.declared.Message.{Message}
use Rattle.frame.specs.declared.Fields.{Fields}
use Rattle.frame.specs.Message.{ack_kind, last_counter, stamp, by}
use Rattle.frame.specs.Frame.{frame, fields_of}
use Rattle.frame.specs.Demand2.{InWidth}
use Rattle.frame.proofs.FrameFields.{frame_fields}
use Rattle.calls.specs.Own.{row_of}
use Rattle.calls.specs.declared.Start.{Start}
use Rattle.queue.specs.Queue.{Queue, clock}
use Rattle.calls.specs.Replies.{Call, own_call, receive_call, value_call, missing_call}
use Rattle.calls.specs.View.{acks}
use Rattle.queue.specs.Calls.{view, saying, say, accept, on_queue}
use Rattle.queue.specs.Feeder.{Line, start, Feeder, fresh, sent, had, pending, Act, own_at, deliver, none, at_post}
use Rattle.queue.specs.Feeder.{buffer, offered, comes_to, with_queue, after_made, run}
use Rattle.queue.specs.Demand3.{Faithful}
use Rattle.queue.proofs.Good.{New, le_clock}
use Rattle.queue.proofs.Changes.{Change, unchanged, spoke, accepted, change}
use Rattle.queue.proofs.Parts.{others_said, others_accepted, own_said, own_accepted, sender_accepted}
use Rattle.queue.proofs.Holding.{Kept, kept_change, kept-empty}
use Rattle.queue.proofs.Fitting.{proper_width}

-- counters fit their four bytes
abbrev Small : Queue → Type 0
Small q = (m : Message) → In m q → m.counter ≤ last_counter

small_put : (m : Message) (q : Queue) → m.counter ≤ last_counter → Small q → Small (put stamp m q)
small_put m q c h x i = ⊎_elim (λ e. let k = ap (λ (z : Message). z.counter) e in omega arith) (h x) (in_put stamp m x q i)

small_say : (st : Start) (kind : ℕ) (q : Queue) → clock q < last_counter → Small q → Small (say st kind q)
unfolding say saying
small_say st kind q c h = small_put (saying st kind q) q c h

clock-put : (m : Message) (q : Queue) (n : ℕ) → m.counter < n → clock q < n → clock (put stamp m q) < n
unfolding clock
clock-put m q n a b =
    top_lt (λ z. z.counter) (put stamp m q) n (omega arith) (λ x i.
    ⊎_elim (λ e. let k = ap (λ (z : Message). z.counter) e in omega arith) (λ j. let k = le_clock q x j in omega arith) (in_put stamp m x q i))

small_accept : (st : Start) (q : Queue) (m : Message) → New st q m → m.counter ≤ last_counter → Small q → Small (accept st q m)
unfolding accept
small_accept st q m n c h =
    let p = put stamp m q in
    let s = small_put m q c h in
    cond_both Small (acks (view st q) m) (say st ack_kind p) p (λ y. small_say st ack_kind p (clock-put m q last_counter (n.room y).1 (n.room y).0) s) (λ z. s)

-- ---- what holds after every act

pub record Ran (L : Line) (s : Feeder) : Type 0 where
  pub kept : (p : ℕ) → p < L.posts → Kept (start L p) (s p)
  pub small : (p : ℕ) → p < L.posts → Small (s p)
  pub faithful : Faithful L s

-- a queue that post p may have next
record Next (L : Line) (s : Feeder) (p : ℕ) (q : Queue) : Type 0 where
  kept : Kept (start L p) q
  small : Small q
  own : Begins (sent s p) (keep (by p) q)
  others : (r : ℕ) → r < L.posts → (r ≡ p → ⊥) → Begins (keep (by r) q) (sent s r)

-- m is what r sent next after what p has of it
abbrev Follows : Line → Feeder → ℕ → Message → Type 0
Follows L s p m = (r : ℕ) × (r < L.posts) × (ms : List Message) × (had s r p ++ m ∷ ms ≡ sent s r)

-- a call at p brings only that
abbrev Brings : Line → Feeder → ℕ → Call → Type 0
Brings L s p (own_call o lent) = Unit
Brings L s p (receive_call f lent) = Follows L s p (fields_of f).message
Brings L s p value_call = Unit
Brings L s p missing_call = Unit

follower : (L : Line) (s : Feeder) (p : ℕ) (m : Message) (b : Follows L s p m) → In m (s b.0) × (m.sender ≡ b.0)
follower L s p m b =
    let k = keep_in (by b.0) m (s b.0) (subst (In m) b.3 (in_right m (had s b.0 p) (m ∷ b.2) (inl refl))) in
    (k.0, eqb→eq m.sender b.0 k.1)

module _ (L : Line) (s : Feeder) (w : Ran L s) (p : ℕ) (l : p < L.posts) where
  abbrev st : Start
  st = start L p

  next_say : (kind : ℕ) → clock (s p) < last_counter → Kept st (say st kind (s p)) → Next L s p (say st kind (s p))
  next_say kind c k = record {
    kept = k;
    small = small_say st kind (s p) c (w.small p l);
    own = own_said st (s p) (w.kept p l).good.sorted kind;
    others = λ r lr n. rw (others_said st (s p) kind r n) (w.faithful r p lr l n);
  }

  sender_begins : (m : Message) → Follows L s p m → New st (s p) m → Begins (keep (by m.sender) (accept st (s p) m)) (sent s m.sender)
  sender_begins m b n = (
    b.2,
    ap (λ (t : List Message). t ++ b.2) (sender_accepted st (s p) (w.kept p l).good.sorted m n)
        ∙ append_assoc (keep (by m.sender) (s p)) (m ∷ []) b.2
        ∙ subst (λ (x : ℕ). keep (by x) (s p) ++ m ∷ b.2 ≡ sent s x) (sym (follower L s p m b).1) b.3,
  )

  next_accept : (m : Message) → Follows L s p m → New st (s p) m → Kept st (accept st (s p) m) → Next L s p (accept st (s p) m)
  next_accept m b n k = record {
    kept = k;
    small = small_accept st (s p) m n (w.small b.0 b.1 m (follower L s p m b).0) (w.small p l);
    own = own_accepted st (s p) (w.kept p l).good.sorted m n;
    others = λ r lr d.
        test (eqb r m.sender)
        (λ y. subst (λ (x : ℕ). Begins (keep (by x) (accept st (s p) m)) (sent s x)) (sym (eqb→eq r m.sender y)) (sender_begins m b n))
        (λ z. rw (others_accepted st (s p) r m d (neqb→ne r m.sender z)) (w.faithful r p lr l d));
  }

  next : (c : Call) (q : Queue) → Brings L s p c → Change st (s p) c q → Kept st q → Next L s p q
  next c q b unchanged k = record { kept = k; small = w.small p l; own = begins_refl (sent s p); others = λ r lr d. w.faithful r p lr l d }
  next c q b (spoke {o = o} z h) k = next_say (row_of o).kind h k
  next c q b (accepted {s = f} n) k = next_accept (fields_of f).message b n k

  ran_with : (q : Queue) → Next L s p q → Ran L (with_queue s p q)
  ran_with q n = record {
    kept = λ r lr.
        cond_both (Kept (start L r)) (eqb r p) q (s r)
        (λ y. subst (λ (x : ℕ). Kept (start L x) q) (sym (eqb→eq r p y)) n.kept)
        (λ z. w.kept r lr);
    small = λ r lr. cond_both Small (eqb r p) q (s r) (λ y. n.small) (λ z. w.small r lr);
    faithful = λ a b la lb d.
        cond_both (λ x. Begins (keep (by a) x) (sent (with_queue s p q) a)) (eqb b p) q (s b)
        (λ y.
        cond_both (λ x. Begins (keep (by a) q) (keep (by a) x)) (eqb a p) q (s a)
        (λ z. absurd (d (eqb→eq a p z ∙ sym (eqb→eq b p y))))
        (λ z. n.others a la (neqb→ne a p z)))
        (λ y.
        cond_both (λ x. Begins (had s a b) (keep (by a) x)) (eqb a p) q (s a)
        (λ z. longer a b lb d (eqb→eq a p z))
        (λ z. w.faithful a b la lb d));
  }
    where
      longer : (a b : ℕ) → b < L.posts → (a ≡ b → ⊥) → a ≡ p → Begins (had s a b) (keep (by a) q)
      longer a b lb d e =
          subst (λ (x : ℕ). Begins (had s x b) (keep (by x) q)) (sym e)
          (begins_trans (had s p b) (sent s p) (keep (by p) q) (w.faithful p b l lb (λ x. d (e ∙ x))) n.own)

  ran_call : (c : Call) → Brings L s p c → Ran L (after_made L s (at_post p c))
  ran_call c b =
      let q = (on_queue st (s p) c).next in
      let d = change st (s p) c in
      ran_with q (next c q b d (kept_change st c (s p) q d (w.kept p l)))

module _ (L : Line) (f : L.feeder ≤ 255) (s : Feeder) (w : Ran L s) where
  pub in_width : (p : ℕ) → p < L.posts → (m : Message) → In m (s p) → InWidth L.feeder m
  in_width p l m i =
      let g = (w.kept p l).good.sorted in
      proper_width (start L p) g.fit.few f m (g.proper m i) (w.small p l m i)

  -- the next message of p is offered to q
  ran_offer : (p q : ℕ) → p < L.posts → q < L.posts → (ms : List Message) → had s p q ++ ms ≡ sent s p → Ran L (after_made L s (offered L q ms))
  ran_offer p q lp lq [] e = w
  ran_offer p q lp lq (m ∷ ms) e =
      let i = (follower L s q m (p, lp, ms, e)).0 in
      let back = ap (λ (x : Fields). x.message) (frame_fields L.feeder m (in_width p lp m i)) in
      ran_call L s w q lq (receive_call (frame L.feeder m) buffer) (subst (Follows L s q) (sym back) (p, lp, ms, e))

  pub ran_act : (a : Act) → Ran L (after_made L s (comes_to L s a))
  unfolding comes_to pending
  ran_act (own_at o p) =
      cond_both (λ x. Ran L (after_made L s x)) (ltb p L.posts) (at_post p (own_call o buffer)) none
      (λ y. ran_call L s w p (ltb→lt p L.posts y) (own_call o buffer) tt)
      (λ n. w)
  ran_act (deliver p q) =
      cond_both (λ x. Ran L (after_made L s x)) (ltb p L.posts && (ltb q L.posts && not (eqb p q))) (offered L q (pending s p q)) none
      (λ y.
      let lp = ltb→lt p L.posts (and_l (ltb p L.posts) _ y) in
      let z = and_r (ltb p L.posts) _ y in
      let lq = ltb→lt q L.posts (and_l (ltb q L.posts) _ z) in
      let b = w.faithful p q lp lq (neqb→ne p q (and_r (ltb q L.posts) _ z)) in
      ran_offer p q lp lq (pending s p q) (begins_drop (had s p q) (sent s p) b))
      (λ n. w)

pub ran-fresh : (L : Line) → L.posts ≤ 16 → Ran L fresh
unfolding keep
ran-fresh L few = record {
  kept = λ p l. kept-empty (start L p) (record { few = few; mine = l });
  small = λ p l m i. absurd i;
  faithful = λ p q lp lq d. ([], refl);
}

ran_on : (L : Line) → L.feeder ≤ 255 → (acts : List Act) (s : Feeder) → Ran L s → Ran L (run L s acts)
unfolding run
ran_on L f [] s w = w
ran_on L f (a ∷ acts) s w = ran_on L f acts (after_made L s (comes_to L s a)) (ran_act L f s w a)

pub ran : (L : Line) → L.posts ≤ 16 → L.feeder ≤ 255 → (acts : List Act) → Ran L (run L fresh acts)
ran L few f acts = ran_on L f acts fresh (ran-fresh L few)
