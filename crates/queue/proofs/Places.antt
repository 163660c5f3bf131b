-- Demand 3, second part: the takes granted anywhere, less the returns sent, never exceed the places. Assumes nothing.
use mathlib.Core.Path.{ap, subst}
use mathlib.Core.Logic.{⊎_elim}
use mathlib.Core.Bool.{Bool, ◌&&◌}
use mathlib.Core.List.{List}
use Prim.Native.Nat.{ℕ, zero, suc, pred, ◌+◌, ◌≤◌, ◌<◌}
use native.Mathlib.Omega.{arith}
use lib.Dec.{T, leb, eqb, leb→le, le→leb, eqb→eq}
use lib.ListN.{length}
use mir.Facts.{yes_and}
use Rattle.laws.specs.Lists.{In, keep, many, Begins, Rising, upto}
use Rattle.laws.proofs.Tests.{test, and_l, and_r, neqb→ne, leb-total}
use Rattle.laws.proofs.BelowLaws.{sum_to_le, sum_to_zero}
use Rattle.laws.proofs.ListLaws.{keep-keep, many_le, begins_refl, begins_trans, begins_keep, begins_length, parts}
use Rattle.laws.proofs.RisingLaws.{upto_begins, upto-few}
use Rattle.frame.specs.declared.Message.{Message}
use Rattle.frame.specs.Message.{is_take, is_return, counted, stamp, by}
use Rattle.queue.specs.Queue.{heard, settled, takes, number, room, free, grants}
use Rattle.queue.specs.Feeder.{Line, start, Feeder, sent, had, returns_sent, granted}
use Rattle.queue.proofs.Heard.{takes_in, takes_rising}
use Rattle.queue.proofs.Agree.{Sound, one_order}

module _ (L : Line) (s : Feeder) (w : Sound L s) where
  abbrev settled_at : ℕ → List Message
  settled_at p = settled (start L p) (s p)

  -- a post whose settled list those of the posts up to j begin
  record Longest (j : ℕ) : Type 0 where
    post : ℕ
    there : post < L.posts
    covers : (p : ℕ) → p ≤ j → Begins (settled_at p) (settled_at post)

  longest : (j : ℕ) → j < L.posts → Longest j
  longest zero h =
      record { post = 0; there = h; covers = λ p l. subst (λ (x : ℕ). Begins (settled_at x) (settled_at 0)) (omega arith) (begins_refl (settled_at 0)) }
  longest (suc j) h =
      let b = longest j (omega arith) in
      ⊎_elim
      (λ x. record {
        post = suc j;
        there = h;
        covers = λ p l.
            test (eqb p (suc j))
            (λ y. rw (eqb→eq p (suc j) y) (begins_refl (settled_at (suc j))))
            (λ n. let d = neqb→ne p (suc j) n in begins_trans (settled_at p) (settled_at b.post) (settled_at (suc j)) (b.covers p (omega arith)) x);
      })
      (λ x. record {
        post = b.post;
        there = b.there;
        covers = λ p l. test (eqb p (suc j)) (λ y. rw (eqb→eq p (suc j) y) x) (λ n. let d = neqb→ne p (suc j) n in b.covers p (omega arith));
      })
      (one_order L s w b.post (suc j) b.there h)

  -- the returns in any queue are at most those sent
  had_le : (r p : ℕ) → r < L.posts → p < L.posts → many is_return (had s r p) ≤ many is_return (sent s r)
  had_le r p lr lp =
      test (eqb r p)
      (λ y. rw (eqb→eq r p y) (omega arith))
      (λ n.
      let b = begins_keep is_return (had s r p) (sent s r) (w.faithful r p lr lp (neqb→ne r p n)) in
      begins_length (keep is_return (had s r p)) (keep is_return (sent s r)) b)

  returns_le : (p : ℕ) → p < L.posts → many is_return (s p) ≤ returns_sent L s
  unfolding returns_sent
  returns_le p l =
      let e = parts (λ m. m.sender) L.posts is_return (s p) (λ m i. ((w.good p l).sorted.proper m i).sender) in
      let a = sum_to_le L.posts _ _ (λ r lr. had_le r p lr l) in
      omega arith

  room_le : (p : ℕ) → p < L.posts → room (start L p) (s p) ≤ L.places + returns_sent L s
  unfolding room settled
  room_le p l =
      let f : Message → Bool = λ m. counted m && heard (start L p) (s p) m in
      let a = returns_le p l in
      let b = ap length (keep-keep is_return f (s p)) in
      let c = many_le (λ m. f m && is_return m) is_return (s p) (λ m i. and_r (f m) (is_return m)) in
      omega arith

  -- a post's granted takes are own takes that have a number up to x in any list which its settled list begins
  grants_le : (x p : ℕ) (t : List Message) → Rising stamp (keep is_take t) → Begins (settled_at p) t → room (start L p) (s p) ≤ x
      → length (grants (start L p) (s p)) ≤ many (λ m. leb (upto stamp (keep is_take t) m) x) (keep (by p) (keep is_take t))
  unfolding grants free
  grants_le x p t r b h =
      let one = many_le f g mine fits in
      let two = begins_length (keep g mine) (keep g all) (begins_keep g mine all begins) in
      let three = ap length (keep-keep (λ m. leb (upto stamp all m) x) (by p) all) in
      omega arith
    where
      mine : List Message
      mine = takes (start L p) (s p)

      all : List Message
      all = keep is_take t

      begins : Begins mine all
      begins = begins_keep is_take (settled_at p) t b

      f : Message → Bool
      f m = by p m && leb (upto stamp mine m) (room (start L p) (s p))

      g : Message → Bool
      g m = by p m && leb (upto stamp all m) x

      fits : (m : Message) → In m mine → T (f m) → T (g m)
      fits m i y =
          let u = leb→le (upto stamp mine m) (room (start L p) (s p)) (and_r (by p m) _ y) in
          let e = upto_begins stamp mine all begins r m i in
          yes_and (by p m) _ (and_l (by p m) _ y) (le→leb (upto stamp all m) x (omega arith))

  -- all granted takes have different numbers in the longest list
  numbered : 0 < L.posts → granted L s ≤ L.places + returns_sent L s
  unfolding granted
  numbered z =
      let x = L.places + returns_sent L s in
      let b = longest (pred L.posts) (omega arith) in
      let st = start L b.post in
      let q = s b.post in
      let g = (w.good b.post b.there).sorted in
      let up = takes_rising st q g.rising in
      let one = sum_to_le L.posts _ _ (λ p l. grants_le x p (settled_at b.post) up (b.covers p (omega arith)) (room_le p l)) in
      let few : Message → Bool = λ m. leb (number st q m) x in
      let two = parts (λ m. m.sender) L.posts few (takes st q) (λ m i. (g.proper m (takes_in st q m i)).sender) in
      let three = upto-few stamp (takes st q) x up in
      omega arith

  pub never_more : granted L s ≤ L.places + returns_sent L s
  unfolding granted
  never_more =
      ⊎_elim
      (λ z.
      let a = sum_to_le L.posts (λ p. length (grants (start L p) (s p))) (λ p. 0) (λ p l. absurd (omega arith)) in
      let b = sum_to_zero L.posts in
      omega arith)
      numbered
      (leb-total L.posts 0)
