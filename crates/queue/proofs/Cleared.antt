-- Demand 3, third part: once all is accepted everywhere, all takes and returns are settled, and the granted takes are exactly those whose
-- number is at most the places plus the returns. Assumes nothing.
use mathlib.Core.Path.{◌≡◌, sym, ap, ◌∙◌, subst}
use mathlib.Core.Logic.{◌↔◌}
use mathlib.Core.Bool.{◌&&◌}
use mathlib.Core.List.{List}
use Prim.Native.Nat.{ℕ, ◌+◌, ◌≤◌, ◌<◌}
use native.Mathlib.Omega.{arith}
use lib.Dec.{T, eqb, leb→le, le→leb, eqb→eq, eqb_refl}
use lib.ListN.{length}
use mir.Facts.{yes_and}
use Rattle.laws.specs.Lists.{In, keep, many, upto}
use Rattle.laws.proofs.Tests.{test, and_l, and_r, or_r, same_test, neqb→ne}
use Rattle.laws.proofs.BelowLaws.{sum_to_cong}
use Rattle.laws.proofs.ListLaws.{in_keep, keep_in, keep-keep, keep_cong, parts}
use Rattle.laws.proofs.RisingLaws.{rising_same}
use Rattle.frame.specs.declared.Message.{Message}
use Rattle.frame.specs.Message.{is_take, is_return, counted, stamp, by}
use Rattle.queue.specs.Queue.{heard, settled, takes, number, room, free, grants}
use Rattle.queue.specs.Feeder.{Line, start, Feeder, sent, had, returns_sent}
use Rattle.queue.specs.Demand3.{Cleared}
use Rattle.queue.proofs.Good.{le_last}
use Rattle.queue.proofs.Heard.{at_heard}
use Rattle.queue.proofs.Agree.{Sound, was_sent}

return-counted : (m : Message) → (counted m && is_return m) ≡ is_return m
return-counted m =
    same_test (counted m && is_return m) (is_return m)
    (and_r (counted m) (is_return m))
    (λ t. yes_and (counted m) (is_return m) (or_r (is_take m) (is_return m) t) t)

module _ (L : Line) (s : Feeder) (w : Sound L s) (clear : Cleared L s) where
  -- what one post has, each has
  shared : (p q : ℕ) → p < L.posts → q < L.posts → (m : Message) → In m (s p) → In m (s q)
  shared p q lp lq m i =
      let r = m.sender in
      let j : In m (sent s r) = in_keep (by r) m (s r) (was_sent L s w p lp m i) (eqb_refl r) in
      (keep_in (by r) m (s q) (subst (In m) (sym (clear r q ((w.good p lp).sorted.proper m i).sender lq)) j)).0

  one_queue : (p q : ℕ) → p < L.posts → q < L.posts → s p ≡ s q
  one_queue p q lp lq =
      rising_same stamp (s p) (s q) (w.good p lp).sorted.rising (w.good q lq).sorted.rising (shared p q lp lq) (shared q p lq lp)

  -- each post has said something above each take and return, and that has come
  all-heard : (p : ℕ) → p < L.posts → (m : Message) → In m (s p) → T (counted m) → T (heard (start L p) (s p) m)
  all-heard p lp m i c =
      at_heard (start L p) (s p) m (λ r lr d.
      test (eqb m.sender r)
      (λ y. let e = eqb→eq m.sender r y in let k = le_last (s p) m r i e in omega arith)
      (λ n.
      let a = (w.good r lr).topped m (shared p r lp lr m i) c (neqb→ne m.sender r n) in
      let e = a.2 in
      let k = le_last (s p) a.0 r (shared r p lr lp a.0 a.1) e in
      let g = a.3 in
      omega arith))

  pub all_settled : (p q : ℕ) → p < L.posts → q < L.posts → settled (start L p) (s p) ≡ keep counted (s q)
  unfolding settled
  all_settled p q lp lq =
      keep_cong _ counted (s p) (λ m i. same_test _ (counted m) (and_l (counted m) _) (λ c. yes_and (counted m) _ c (all-heard p lp m i c)))
      ∙ ap (keep counted) (one_queue p q lp lq)

  room_is : (p : ℕ) → p < L.posts → room (start L p) (s p) ≡ L.places + returns_sent L s
  unfolding room returns_sent
  room_is p lp =
      let a = parts (λ m. m.sender) L.posts is_return (s p) (λ m i. ((w.good p lp).sorted.proper m i).sender) in
      let b = sum_to_cong L.posts (λ r. many is_return (had s r p)) (λ r. many is_return (sent s r)) (λ r lr. ap (many is_return) (clear r p lr lp)) in
      let c = ap (many is_return) (all_settled p p lp lp) in
      let d = ap length (keep-keep is_return counted (s p)) in
      let e = ap length (keep_cong (λ m. counted m && is_return m) is_return (s p) (λ m i. return-counted m)) in
      omega arith

  pub exactly : (p q : ℕ) → p < L.posts → q < L.posts → (t : Message)
      → In t (grants (start L p) (s p)) ↔ (In t (takes (start L q) (s q)) × (t.sender ≡ p) × (number (start L q) (s q) t ≤ L.places + returns_sent L s))
  unfolding grants free
  exactly p q lp lq t = (
    λ i.
        let k = keep_in _ t (takes (start L p) (s p)) i in
        let l = leb→le (number (start L p) (s p) t) (room (start L p) (s p)) (and_r (by p t) _ k.1) in
        (subst (λ (l : List Message). In t (keep is_take l)) same k.0, eqb→eq t.sender p (and_l (by p t) _ k.1), omega (arith, n, r)),
    λ x.
        let l = x.2 in
        in_keep _ t (takes (start L p) (s p)) (subst (λ (l : List Message). In t (keep is_take l)) (sym same) x.0)
        (yes_and (by p t) _ (subst (λ (z : ℕ). T (eqb t.sender z)) x.1 (eqb_refl t.sender))
        (le→leb (number (start L p) (s p) t) (room (start L p) (s p)) (omega (arith, n, r)))),
  )
    where
      same : settled (start L p) (s p) ≡ settled (start L q) (s q)
      same = all_settled p q lp lq ∙ sym (all_settled q q lq lq)

      n : number (start L p) (s p) t ≡ number (start L q) (s q) t
      n = ap (λ (l : List Message). upto stamp (keep is_take l) t) same

      r : room (start L p) (s p) ≡ L.places + returns_sent L s
      r = room_is p lp
