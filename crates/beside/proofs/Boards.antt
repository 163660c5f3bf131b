-- Posts that keep short records and hand on the frames they wrote stay beside the full queues, act by act. Assumes nothing.
use mathlib.Core.Path.{◌≡◌, refl, sym, ap, ap₂, ◌∙◌, subst}
use mathlib.Core.Logic.{inl}
use mathlib.Core.Bool.{Bool, true, false, not, cond, ◌&&◌}
use mathlib.Core.List.{List, [], ◌∷◌, ◌++◌, map, map-append}
use Prim.Native.Nat.{ℕ, zero, suc, ◌+◌, ◌≤◌, ◌<◌}
use native.Mathlib.Omega.{arith}
use lib.Dec.{T, ltb, eqb, ltb→lt, eqb→eq, eqb_refl}
use lib.ListN.{length, drop, length-append}
use Rattle.laws.specs.Below.{one?}
use Rattle.laws.specs.Lists.{In, keep, many}
use Rattle.laws.proofs.Tests.{and_l, and_r, same_test, neqb→ne}
use Rattle.laws.proofs.ListLaws.{in_right, keep_in, many_cons, begins_drop}
use Rattle.frame.specs.declared.Message.{Message}
use Rattle.frame.specs.declared.Fields.{Fields}
use Rattle.frame.specs.Message.{by}
use Rattle.frame.specs.Frame.{frame}
use Rattle.frame.proofs.FrameFields.{frame_fields}
use Rattle.queue.specs.Queue.{Queue, settled, grants}
use Rattle.calls.specs.Replies.{Call, own_call, receive_call, Reply}
use Rattle.queue.specs.Calls.{on_queue}
use Rattle.queue.specs.Feeder.{Line, start, LineFits, Feeder, fresh, sent, had, pending, Act, own_at, deliver, none, at_post, buffer, offered, comes_to, after_made, run}
use Rattle.queue.specs.Demand3.{marked}
use Rattle.queue.proofs.Grants.{grants-after}
use Rattle.queue.proofs.Fitting.{Fitting, CounterFits, fitting_next}
use Rattle.queue.proofs.Runs.{Ran, in_width, ran_act}
use Rattle.post.specs.declared.Post.{Post}
use Rattle.beside.specs.Image.{image}
use Rattle.beside.specs.OnRecord.{on_record}
use Rattle.beside.specs.Tells.{written, done}
use Rattle.beside.specs.Records.{Board, Boards, begun, called, with_board, offers, acted, run_boards}
use Rattle.beside.specs.Demand3.{frame_in, message_in}
use Rattle.beside.proofs.Starts.{started-image, started_fits}
use Rattle.beside.proofs.Demand2.{one_call}
use Rattle.beside.proofs.Tells.{came, tells}

-- the board of post p has what its full queue has
pub record Mirrors (L : Line) (p : ℕ) (b : Board) (q : Queue) : Type 0 where
  pub fitting : Fitting (start L p) q
  pub post_is : b.post ≡ image (start L p) q
  pub wrote_is : b.wrote ≡ map (frame L.feeder) (keep (by p) q)
  pub accepted_is : (r : ℕ) → (r ≡ p → ⊥) → b.accepted r ≡ length (keep (by r) q)
  pub marks_is : b.marks ≡ length (grants (start L p) q)

abbrev pub Matches : Line → Boards → Feeder → Type 0
Matches L s f = (p : ℕ) → p < L.posts → Mirrors L p (s p) (f p)

pub mirrors_begun : (L : Line) → LineFits L → Matches L (begun L) fresh
unfolding grants settled keep
mirrors_begun L fits p l = record {
  fitting = started_fits (start L p) (fits p l);
  post_is = started-image (start L p) (fits p l);
  wrote_is = refl;
  accepted_is = λ r d. refl;
  marks_is = refl;
}

-- ---- one call

-- how many messages of post r the call brings
abbrev brings : Call → ℕ → ℕ
brings c r = many (by r) (map message_in (frame_in c))

-- they have come where the reply accepts them
came_of : (c : Call) (reply : Reply) (r : ℕ) (t : Bool) → one? t ≡ brings c r → one? (t && done reply) ≡ many (by r) (came c reply)
unfolding keep
came_of c reply r t e = go t (done reply) e
  where
    go : (t b : Bool) → one? t ≡ brings c r → one? (t && b) ≡ many (by r) (map message_in (cond b (frame_in c) []))
    go true true e = e
    go true false e = refl
    go false true e = e
    go false false e = refl

one_more : (t : Bool) (n : ℕ) → cond t (n + 1) n ≡ n + one? t
one_more true n = refl
one_more false n = omega arith

-- from says of whom the call brings a message
mirrors_called : (L : Line) → LineFits L → (p : ℕ) → p < L.posts → (b : Board) (q : Queue) → Mirrors L p b q → (c : Call) → CounterFits c
    → (from : ℕ → Bool) → ((r : ℕ) → one? (from r) ≡ brings c r) → Mirrors L p (called b c from) (on_queue (start L p) q c).next
mirrors_called L fits p l b q k c w from e =
    let st = start L p in
    let kept = k.fitting.kept in
    let same = one_call st (fits p l) q k.fitting c w in
    let t = tells st q kept.good.sorted c in
    let reply : (on_record b.post c).reply ≡ (on_queue st q c).reply = ap (λ (x : Post). (on_record x c).reply) k.post_is ∙ same.reply in
    record {
      fitting = fitting_next st q k.fitting c w;
      post_is = ap (λ (x : Post). (on_record x c).next) k.post_is ∙ same.next;
      wrote_is =
          ap₂ ◌++◌ k.wrote_is (ap written reply ∙ t.writes)
          ∙ sym (map-append (frame L.feeder) (keep (by p) q) t.said)
          ∙ ap (map (frame L.feeder)) (sym t.sends);
      accepted_is = λ r d.
          one_more (from r && done (on_record b.post c).reply) (b.accepted r)
          ∙ (λ i. k.accepted_is r d i + one? (from r && done (reply i)))
          ∙ ap (λ (n : ℕ). length (keep (by r) q) + n) (came_of c (on_queue st q c).reply r (from r) (e r))
          ∙ sym (ap length (t.others r d) ∙ length-append (keep (by r) q) (keep (by r) (came c (on_queue st q c).reply)));
      marks_is =
          one_more (marked (on_record b.post c).reply) b.marks
          ∙ (λ i. k.marks_is i + one? (marked (reply i)))
          ∙ sym (grants-after st q kept c);
    }

-- ---- one act

eqb_swap : (a b : ℕ) → eqb a b ≡ eqb b a
eqb_swap a b = same_test (eqb a b) (eqb b a) (λ y. rw (eqb→eq a b y) (eqb_refl b)) (λ y. rw (eqb→eq b a y) (eqb_refl a))

drop-map : (g : Message → List ℕ) (n : ℕ) (l : List Message) → drop n (map g l) ≡ map g (drop n l)
drop-map g zero l = refl
drop-map g (suc n) [] = refl
drop-map g (suc n) (x ∷ l) = drop-map g n l

module _ (L : Line) (fits : LineFits L) (narrow : L.feeder ≤ 255) (s : Boards) (f : Feeder) (w : Ran L f) (m : Matches L s f) where
  at_one : (p : ℕ) → p < L.posts → (c : Call) → CounterFits c → (from : ℕ → Bool) → ((r : ℕ) → one? (from r) ≡ brings c r)
      → Matches L (with_board s p (called (s p) c from)) (after_made L f (at_post p c))
  at_one p l c x from e r lr =
      let b = called (s p) c from in
      let q = (on_queue (start L p) (f p) c).next in
      let new = mirrors_called L fits p l (s p) (f p) (m p l) c x from e in
      go (eqb r p) (λ y. subst (λ (z : ℕ). Mirrors L z b q) (sym (eqb→eq r p y)) new)
    where
      go : (t : Bool) → (T t → Mirrors L r (called (s p) c from) (on_queue (start L p) (f p) c).next)
          → Mirrors L r (cond t (called (s p) c from) (s r)) (cond t (on_queue (start L p) (f p) c).next (f r))
      go true new = new tt
      go false new = m r lr

  -- the next message of p to q, or none
  at_offer : (p q : ℕ) → p < L.posts → q < L.posts → (ms : List Message) → had f p q ++ ms ≡ sent f p
      → Matches L (offers s p q (map (frame L.feeder) ms)) (after_made L f (offered L q ms))
  unfolding keep
  at_offer p q lp lq [] e = m
  at_offer p q lp lq (x ∷ ms) e =
      let i = keep_in (by p) x (f p) (subst (In x) e (in_right x (had f p q) (x ∷ ms) (inl refl))) in
      let wide = in_width L narrow f w p lp x i.0 in
      let back = frame_fields L.feeder x wide in
      let c = ap (λ (y : Fields). y.message.counter) back in
      let h = wide.counter in
      let sender = ap (λ (y : Fields). y.message.sender) back ∙ eqb→eq x.sender p i.1 in
      at_one q lq (receive_call (frame L.feeder x) buffer) (omega arith) (λ r. eqb r p) (λ r.
      let one = ap one? (eqb_swap r p ∙ ap (λ (z : ℕ). eqb z r) (sym sender)) in
      let all = many_cons (by r) (message_in (frame L.feeder x)) [] in
      omega arith)

  -- the frames of p that q has not accepted are those of the messages it has still to accept
  frames_left : (p q : ℕ) → p < L.posts → q < L.posts → (p ≡ q → ⊥)
      → drop ((s q).accepted p) (s p).wrote ≡ map (frame L.feeder) (pending f p q)
  unfolding pending
  frames_left p q lp lq d =
      ap₂ drop ((m q lq).accepted_is p d) (m p lp).wrote_is ∙ drop-map (frame L.feeder) (length (had f p q)) (sent f p)

  -- a take or return at p, which brings no message
  at_own : (p : ℕ) (c : Call) → CounterFits c → ((r : ℕ) → 0 ≡ brings c r)
      → Matches L (cond (ltb p L.posts) (with_board s p (called (s p) c (λ r. false))) s) (after_made L f (cond (ltb p L.posts) (at_post p c) none))
  at_own p c x e = go (ltb p L.posts) (ltb→lt p L.posts)
    where
      go : (t : Bool) → (T t → p < L.posts) → Matches L (cond t (with_board s p (called (s p) c (λ r. false))) s) (after_made L f (cond t (at_post p c) none))
      go true l = at_one p (l tt) c x (λ r. false) e
      go false l = m

  matches_act : (a : Act) → Matches L (acted L s a) (after_made L f (comes_to L f a))
  unfolding acted comes_to pending keep
  matches_act (own_at o p) = at_own p (own_call o buffer) tt (λ r. refl)
  matches_act (deliver p q) = go (ltb p L.posts && (ltb q L.posts && not (eqb p q))) ready
    where
      ready : T (ltb p L.posts && (ltb q L.posts && not (eqb p q)))
          → Matches L (offers s p q (drop ((s q).accepted p) (s p).wrote)) (after_made L f (offered L q (pending f p q)))
      ready y =
          let lp = ltb→lt p L.posts (and_l (ltb p L.posts) _ y) in
          let z = and_r (ltb p L.posts) _ y in
          let lq = ltb→lt q L.posts (and_l (ltb q L.posts) _ z) in
          let d = neqb→ne p q (and_r (ltb q L.posts) _ z) in
          subst (λ (x : List (List ℕ)). Matches L (offers s p q x) (after_made L f (offered L q (pending f p q)))) (sym (frames_left p q lp lq d))
          (at_offer p q lp lq (pending f p q) (begins_drop (had f p q) (sent f p) (w.faithful p q lp lq d)))

      go : (t : Bool) → (T t → Matches L (offers s p q (drop ((s q).accepted p) (s p).wrote)) (after_made L f (offered L q (pending f p q))))
          → Matches L (cond t (offers s p q (drop ((s q).accepted p) (s p).wrote)) s) (after_made L f (cond t (offered L q (pending f p q)) none))
      go true h = h tt
      go false h = m

-- ---- a run

pub matches_run : (L : Line) → LineFits L → L.feeder ≤ 255 → (acts : List Act) (s : Boards) (f : Feeder) → Ran L f → Matches L s f
    → Matches L (run_boards L s acts) (run L f acts)
unfolding run_boards run
matches_run L fits narrow [] s f w m = m
matches_run L fits narrow (a ∷ acts) s f w m =
    matches_run L fits narrow acts (acted L s a) (after_made L f (comes_to L f a)) (ran_act L narrow f w a) (matches_act L fits narrow s f w m a)
