-- At most 58 messages wait: 4 of each of 14 others and 2 of its own, since the other post that stands lowest has none. Assumes nothing.
use mathlib.Core.Path.{◌≡◌, sym, ap, ◌∙◌}
use mathlib.Core.Logic.{⊎_elim, by_cases}
use mathlib.Core.Bool.{cond, and-false}
use mathlib.Core.List.{List}
use Prim.Native.Nat.{ℕ, ◌+◌, ◌^◌, ◌≤◌, ◌<◌}
use native.Mathlib.Omega.{arith}
use native.Mathlib.Decide.{ℕ_discrete}
use borrow.Author.Tests.{eq-eqb, ne_eqb, lt-leb}
use lib.Dec.{T, eqb, eqb→eq}
use lib.ListN.{length}
use Rattle.laws.specs.Below.{least_to}
use Rattle.laws.specs.Ladder.{refusal, unless}
use Rattle.laws.specs.Lists.{many, all}
use Rattle.laws.proofs.Tests.{cond_both, leb-total}
use Rattle.laws.proofs.CountLaws.{many_none, many_split, length_parts}
use Rattle.laws.proofs.RefusalLaws.{refusal-not}
use Rattle.laws.proofs.SumLaws.{sum_to_point, sum_to_most}
use Rattle.frame.specs.Message.{stamp_of, is_take, is_return, counted, by}
use Rattle.frame.specs.Frame.{fields_of, form_rows}
use Rattle.calls.specs.Table.{sender_tests, turn_tests, receive_tests}
use Rattle.post.specs.declared.Post.{Post}
use Rattle.post.specs.Record.{last_of, waiting_of, floor}
use Rattle.post.specs.Sound.{sound}
use Rattle.post.specs.Calls.{receive_rows, Outcome, heard_from, received}
use Rattle.post.proofs.Sound.Facts.{Sound, sound_has}
use Rattle.post.proofs.Fields.Shape.{Shape, Width, length-waiting, last_width}
use Rattle.laws.proofs.LeastLaws.{least_of, least_le}
use Rattle.post.proofs.Own.Standing.{standing, own_most}

module _ (p : Post) (s : Sound p) where
  pub own_two : many (by p.own) (waiting_of p) ≤ 2
  own_two =
      let a = many_split (by p.own) is_take is_return (waiting_of p) (λ m i. (s.fair m i).kind) in
      let b = own_most _ _ _ _ _ _ (standing p s) in
      omega arith

  -- another post that stands at the floor has none waiting
  pub lowest_none : (q : ℕ) → stamp_of (last_of p q) q ≡ floor p → many (by q) (waiting_of p) ≡ 0
  lowest_none q e =
      many_none (by q) (waiting_of p) (λ m i y.
      let a = s.above m i in
      let b = (s.fair m i).high in
      let c = eqb→eq m.sender q y in
      let d = ap (last_of p) c in
      omega arith)

  -- so it never meets 12
  pub lowest_never_12 : (t lent : List ℕ) → stamp_of (last_of p (fields_of t).message.sender) (fields_of t).message.sender ≡ floor p → (received p t lent).gives.number ≡ 12 → ⊥
  unfolding unless heard_from receive_rows receive_tests form_rows sender_tests turn_tests all
  lowest_never_12 t lent e =
      let m = (fields_of t).message in
      let z = lowest_none m.sender e in
      let h = lt-leb 4 (many (by m.sender) (waiting_of p)) (omega arith) in
      cond_both (λ (o : Outcome). o.gives.number ≡ 12 → ⊥) (eqb (refusal (receive_rows p t (length lent))) 0) _ _
      (λ y x. omega arith)
      (λ n. refusal-not 12 (receive_rows p t (length lent)) (λ x. omega arith) (rw (h, and-false (counted m)) tt))

  -- and there is one
  pub lowest : Width p → 2 ≤ p.posts → (q : ℕ) × (q < p.posts) × (q ≡ p.own → ⊥) × (stamp_of (last_of p q) q ≡ floor p)
  unfolding floor
  lowest w n =
      ⊎_elim
      (λ e. absurd (⊎_elim (λ o. high 1 n (λ x. omega arith) e) (λ o. high 0 (omega arith) (λ x. omega arith) e) (leb-total p.own 0)))
      (λ q. q)
      (least_of p.own (2 ^ 40) (λ q. stamp_of (last_of p q) q) p.posts)
    where
      high : (q : ℕ) → q < p.posts → (q ≡ p.own → ⊥) → least_to p.posts p.own (2 ^ 40) (λ r. stamp_of (last_of p r) r) ≡ 2 ^ 40 → ⊥
      high q l d e =
          let a = least_le p.own (2 ^ 40) (λ r. stamp_of (last_of p r) r) p.posts q l d in
          let c = last_width p s w q (omega arith) in
          omega arith

  most_of : Shape p → Width p → p.waits ≤ 58
  most_of h w =
      ⊎_elim
      (λ l. let a = s.alone (omega arith) in omega arith)
      (λ l. let q = lowest w l in count q.0 q.1 q.2 (lowest_none q.0 q.3))
      (leb-total p.posts 1)
    where
      f : ℕ → ℕ
      f q = many (by q) (waiting_of p)

      count : (k : ℕ) → k < p.posts → (k ≡ p.own → ⊥) → f k ≡ 0 → p.waits ≤ 58
      count k l d z =
          let a = sum_to_point p.posts k 4 f l in
          let b = sum_to_point p.posts p.own 2 (λ q. cond (eqb k q) 4 0 + f q) s.range.own_low in
          let c = sum_to_most p.posts 4 (λ q. cond (eqb p.own q) 2 0 + (cond (eqb k q) 4 0 + f q)) each in
          let e = length_parts (λ m. m.sender) p.posts (waiting_of p) (λ m i. (s.fair m i).sender) in
          let g = length-waiting p s h in
          omega arith
        where
          each : (q : ℕ) → q < p.posts → cond (eqb p.own q) 2 0 + (cond (eqb k q) 4 0 + f q) ≤ 4
          each q j = by_cases (ℕ_discrete p.own q)
              (λ e. let u = ap f e in let t = own_two in rw (eq-eqb p.own q e, ne_eqb k q (λ x. d (x ∙ sym e))) (omega arith))
              (λ n. by_cases (ℕ_discrete k q)
              (λ e. let u = ap f e in rw (ne_eqb p.own q n, eq-eqb k q e) (omega arith))
              (λ m. let t = s.few q j (λ e. n (sym e)) in rw (ne_eqb p.own q n, ne_eqb k q m) (omega arith)))

pub most : (p : Post) → Shape p → Width p → T (sound p) → p.waits ≤ 58
most p h w t = most_of p (sound_has p t) h w
