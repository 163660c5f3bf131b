-- How many a queue holds: settled and waiting are at most the sum of the last counters, and at most 62 wait. Assumes nothing.
use mathlib.Core.Path.{◌≡◌, refl, ap}
use mathlib.Core.Logic.{inl, inr}
use mathlib.Core.Bool.{Bool, true, false, not, ◌&&◌, ◌||◌}
use mathlib.Core.List.{List, [], ◌∷◌}
use Prim.Native.Nat.{ℕ, ◌+◌, ◌≤◌, ◌<◌, max}
use native.Mathlib.Omega.{arith}
use lib.Dec.{T, eqb→eq}
use lib.ListN.{length}
use Rattle.laws.specs.Below.{sum_to, one?}
use Rattle.laws.specs.Lists.{In, keep, many, Rising, top}
use Rattle.laws.proofs.Tests.{test}
use Rattle.laws.proofs.BelowLaws.{sum_to_le}
use Rattle.laws.proofs.ListLaws.{keep_in, keep-keep, many_cons, parts}
use Rattle.laws.proofs.RisingLaws.{rising_keep}
use Rattle.laws.proofs.ScanLaws.{many-length}
use Rattle.laws.proofs.CountLaws.{many_none, many_split}
use Rattle.laws.proofs.Counting.{many-all, many_one}
use Rattle.laws.proofs.SumLaws.{sum_to_but, sum_to_grows}
use Rattle.frame.specs.declared.Message.{Message}
use Rattle.frame.specs.Message.{is_take, is_return, counted, stamp, by, own_take}
use Rattle.calls.specs.declared.Start.{Start}
use Rattle.queue.specs.Queue.{Queue, last, heard, settled, waiting, latest}
use Rattle.queue.proofs.Good.{Sorted}
use Rattle.queue.proofs.Waiting.{waiting_in, waiting_rising, waits_latest, no_take_waits, latest_waits, none_waits}
use Rattle.queue.proofs.Granted.{latest_in}
use Rattle.queue.proofs.Fitting.{Fitting}
use mir.Facts.{yes_and}
use Rattle.laws.proofs.Tests.{and_l}

-- ---- takes, returns and what waits

-- the messages of one sender have different counters, from k + 1 on
one_sender : (p k : ℕ) (l : List Message) → Rising stamp l → ((a : Message) → In a l → a.sender ≡ p) → ((a : Message) → In a l → k < a.counter)
    → k + length l ≤ max k (top (λ m. m.counter) l)
unfolding top
one_sender p k [] r s h = omega arith
one_sender p k (x ∷ xs) r s h =
    let a = h x (inl refl) in
    let b = one_sender p x.counter xs r.1 (λ c i. s c (inr i)) (λ c i.
    let d = r.0 c i in
    let e = s x (inl refl) in
    let f = s c (inr i) in
    omega arith) in
    omega arith

sent-few : (st : Start) (q : Queue) → Sorted st q → (p : ℕ) → length (keep (by p) q) ≤ last p q
unfolding last
sent-few st q g p =
    let h = one_sender p 0 (keep (by p) q) (rising_keep stamp (by p) q g.rising)
    (λ a i. eqb→eq a.sender p (keep_in (by p) a q i).1)
    (λ a i. (g.proper a (keep_in (by p) a q i).0).counter)
    in
    omega arith

three : (a b h : Bool) → (T a → T b → ⊥) → one? (((a || b) && h) && a) + one? (((a || b) && h) && b) + one? ((a || b) && not h) ≤ one? (a || b)
three true true h d = absurd (d tt tt)
three true false true d = omega arith
three true false false d = omega arith
three false true true d = omega arith
three false true false d = omega arith
three false false h d = omega arith

one_kind : (m : Message) → T (is_take m) → T (is_return m) → ⊥
one_kind m a b = let e = eqb→eq m.kind 1 a in let f = eqb→eq m.kind 2 b in omega arith

split_le : (h : Message → Bool) (l : List Message)
    → many (λ m. (counted m && h m) && is_take m) l + many (λ m. (counted m && h m) && is_return m) l + many (λ m. counted m && not (h m)) l
    ≤ many counted l
unfolding keep
split_le h [] = omega arith
split_le h (x ∷ xs) =
    let r = split_le h xs in
    let a = many_cons (λ m. (counted m && h m) && is_take m) x xs in
    let b = many_cons (λ m. (counted m && h m) && is_return m) x xs in
    let c = many_cons (λ m. counted m && not (h m)) x xs in
    let d = many_cons counted x xs in
    let e = three (is_take x) (is_return x) (h x) (one_kind x) in
    omega arith

counted_sum : (st : Start) (q : Queue) → Sorted st q → many counted q ≤ sum_to st.posts (λ p. last p q)
counted_sum st q g =
    let a = parts (λ m. m.sender) st.posts counted q (λ m i. (g.proper m i).sender) in
    let b = sum_to_le st.posts (λ p. many counted (keep (by p) q)) (λ p. last p q)
    (λ p l. let c = many-length counted (keep (by p) q) in let d = sent-few st q g p in omega arith)
    in
    omega arith

pub total_fits : (st : Start) (q : Queue) → Sorted st q
    → many is_take (settled st q) + many is_return (settled st q) + length (waiting st q) ≤ sum_to 16 (λ p. last p q)
unfolding settled waiting
total_fits st q g =
    let s = split_le (heard st q) q in
    let a = ap length (keep-keep is_take (λ m. counted m && heard st q m) q) in
    let b = ap length (keep-keep is_return (λ m. counted m && heard st q m) q) in
    let c = counted_sum st q g in
    let d = sum_to_grows st.posts 16 (λ p. last p q) g.fit.few in
    omega arith

-- ---- what waits, by sender

module _ (st : Start) (q : Queue) (k : Fitting st q) where
  abbrev g : Sorted st q
  g = k.kept.good.sorted

  -- of its own takes at most the latest waits
  pub one_take : T (is_take (latest st q)) → T (not (heard st q (latest st q))) → many (own_take st.own) (waiting st q) ≡ 1
  one_take t n =
      many_one stamp (own_take st.own) (waiting st q) (latest st q) (waiting_rising st q g.rising)
      (latest_waits st q g.rising k.kept.paid t n)
      (yes_and (by st.own (latest st q)) _ (latest_in st q t).1 t)
      (waits_latest st q g.rising k.kept.paid)

  pub no_take : T (not (is_take (latest st q))) → many (own_take st.own) (waiting st q) ≡ 0
  no_take n = many_none (own_take st.own) (waiting st q) (no_take_waits st q g.rising k.kept.paid n)

  pub none_own : T (heard st q (latest st q)) → (f : Message → Bool) → many (λ m. by st.own m && f m) (waiting st q) ≡ 0
  none_own h f =
      many_none (λ m. by st.own m && f m) (waiting st q) (λ m i o.
      none_waits st q g.rising k.kept.paid h m i (and_l (by st.own m) (f m) o))

  own_two : many (by st.own) (waiting st q) ≤ 2
  own_two =
      let s = many_split (by st.own) is_take is_return (waiting st q) (λ m i. (waiting_in st q m i).1) in
      let b = k.own in
      test (is_take (latest st q))
      (λ t.
      test (heard st q (latest st q))
      (λ h. let e = none_own h is_take in omega arith)
      (λ n. let e = one_take t n in omega arith))
      (λ n. let e = no_take n in omega arith)

  pub waits_few : length (waiting st q) ≤ 62
  waits_few =
      let w = waiting st q in
      let all : (l : List Message) → many (λ m. true) l ≡ length l = λ l. many-all (λ m. true) l (λ a i. tt) in
      let a = parts (λ m. m.sender) st.posts (λ m. true) w (λ m i. (g.proper m (waiting_in st q m i).0).sender) in
      let e = all w in
      let b = sum_to_but st.posts st.own 4 2 (λ p. many (λ m. true) (keep (by p) w)) g.fit.mine
      (let c = all (keep (by st.own) w) in let d = own_two in omega arith)
      (λ r l d. let c = all (keep (by r) w) in let f = k.few r l d in omega arith)
      in
      let f = g.fit.few in
      omega arith
