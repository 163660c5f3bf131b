-- Demand 3, first part: of any two posts' settled lists one begins the other. Assumes nothing.
use mathlib.Core.Path.{◌≡◌, sym, subst}
use mathlib.Core.Logic.{◌⊎◌, ⊎_elim}
use mathlib.Core.List.{◌++◌}
use Prim.Native.Nat.{ℕ, ◌≤◌, ◌<◌}
use native.Mathlib.Omega.{arith}
use lib.Dec.{T, eqb, eqb→eq, eqb_refl}
use Rattle.laws.specs.Lists.{In, Begins, Rising}
use Rattle.laws.proofs.Tests.{test, neqb→ne}
use Rattle.laws.proofs.ListLaws.{in_append, in_keep, keep_in, begins_in}
use Rattle.laws.proofs.RisingLaws.{rising_unique, rising_seam, rising_keep, one_begins, top_lt}
use Rattle.frame.specs.declared.Message.{Message}
use Rattle.frame.specs.Message.{stamp, by}
use Rattle.queue.specs.Queue.{last, last_stamp, heard, settled}
use Rattle.queue.specs.Feeder.{Line, start, Feeder, sent, had}
use Rattle.queue.specs.Demand3.{Faithful}
use Rattle.queue.proofs.Good.{Good}
use Rattle.queue.proofs.Heard.{heard_at, at_heard, settled_in, in_settled, settled_rising}

-- all that agreement rests on
pub record Sound (L : Line) (s : Feeder) : Type 0 where
  pub good : (p : ℕ) → p < L.posts → Good (start L p) (s p)
  pub faithful : Faithful L s

module _ (L : Line) (s : Feeder) (w : Sound L s) where
  -- what stands in any queue was sent
  pub was_sent : (q : ℕ) → q < L.posts → (m : Message) → In m (s q) → In m (s m.sender)
  was_sent q l m i =
      let p = m.sender in
      test (eqb p q)
      (λ y. subst (λ (x : ℕ). In m (s x)) (sym (eqb→eq p q y)) i)
      (λ n.
      let b = w.faithful p q ((w.good q l).sorted.proper m i).sender l (neqb→ne p q n) in
      (keep_in (by p) m (s p) (begins_in m (had s p q) (sent s p) b (in_keep (by p) m (s q) i (eqb_refl p)))).0)

  -- both were sent by the post whose number their stamp has
  pub one_stamp : (p q : ℕ) → p < L.posts → q < L.posts → (a b : Message) → In a (s p) → In b (s q) → stamp a ≡ stamp b → a ≡ b
  one_stamp p q lp lq a b i j e =
      let r = a.sender in
      let la = ((w.good p lp).sorted.proper a i).sender in
      let lb = ((w.good q lq).sorted.proper b j).sender in
      let g = (w.good r la).sorted in
      let few = g.fit.few in
      let o : r ≡ b.sender = omega arith in
      rising_unique stamp (s r) a b g.rising (was_sent p lp a i) (subst (λ (x : ℕ). In b (s x)) (sym o) (was_sent q lq b j)) e

  -- what was sent with a stamp up to the last of its sender has come
  has_come : (q : ℕ) → q < L.posts → (m : Message) → m.sender < L.posts → (m.sender ≡ q → ⊥) → In m (s m.sender)
      → stamp m ≤ last_stamp m.sender (s q) → In m (s q)
  unfolding last
  has_come q l m k d i h =
      let p = m.sender in
      let g = (w.good p k).sorted in
      let b = w.faithful p q k l d in
      ⊎_elim
      (λ x. (keep_in (by p) m (s q) x).0)
      (λ x. absurd (
      let r : Rising stamp (had s p q ++ b.0) = subst (Rising stamp) (sym b.1) (rising_keep stamp (by p) (s p) g.rising) in
      let t = top_lt (λ a. a.counter) (had s p q) m.counter (g.proper m i).counter (λ a y.
      let u = rising_seam stamp (had s p q) b.0 r a m y x in
      let v = eqb→eq a.sender p (keep_in (by p) a (s q) y).1 in
      omega arith) in
      omega arith))
      (in_append m (had s p q) b.0 (subst (In m) (sym b.1) (in_keep (by p) m (s p) i (eqb_refl p))))

  -- what was sent and is heard is there
  sent-heard : (q : ℕ) → q < L.posts → (m : Message) → m.sender < L.posts → In m (s m.sender) → T (heard (start L q) (s q) m) → In m (s q)
  sent-heard q l m k i h =
      test (eqb m.sender q)
      (λ y. subst (λ (x : ℕ). In m (s x)) (eqb→eq m.sender q y) i)
      (λ n. let d = neqb→ne m.sender q n in has_come q l m k d i (heard_at (start L q) (s q) m h m.sender k d))

  -- what one post has settled, another has settled if it has settled something at or above it
  carries : (p q : ℕ) → p < L.posts → q < L.posts → (a b : Message) → In a (settled (start L p) (s p)) → In b (settled (start L q) (s q))
      → stamp a ≤ stamp b → In a (settled (start L q) (s q))
  carries p q lp lq a b i j le =
      let x = settled_in (start L p) (s p) a i in
      let y = settled_in (start L q) (s q) b j in
      let h = at_heard (start L q) (s q) a (λ r lr d. let z = heard_at (start L q) (s q) b y.2 r lr d in omega arith) in
      in_settled (start L q) (s q) a (sent-heard q lq a ((w.good p lp).sorted.proper a x.0).sender (was_sent p lp a x.0) h) x.1 h

  pub one_order : (p q : ℕ) → p < L.posts → q < L.posts
      → Begins (settled (start L p) (s p)) (settled (start L q) (s q)) ⊎ Begins (settled (start L q) (s q)) (settled (start L p) (s p))
  one_order p q lp lq =
      one_begins stamp (settled (start L p) (s p)) (settled (start L q) (s q))
      (settled_rising (start L p) (s p) (w.good p lp).sorted.rising) (settled_rising (start L q) (s q) (w.good q lq).sorted.rising)
      (carries p q lp lq) (carries q p lq lp)
