-- A queue that calls made fits a short record: few wait of each sender, and the counters fit their four bytes. Assumes nothing.
use mathlib.Core.Path.{◌≡◌, sym, ap, subst}
use mathlib.Core.Bool.{Bool, not, and-false}
use mathlib.Core.List.{List, []}
use Prim.Native.Nat.{ℕ, suc, ◌+◌, ◌≤◌, ◌<◌, max}
use native.Mathlib.Omega.{arith}
use lib.Dec.{T, leb, not_T, leb→le, eqb→eq}
use Rattle.laws.specs.Below.{one?}
use Rattle.laws.specs.Lists.{In, keep, many, put, top}
use Rattle.laws.proofs.Tests.{test, cond_both, and_l, and_r}
use Rattle.laws.proofs.BelowLaws.{one_eqb}
use Rattle.laws.proofs.CountLaws.{many_none, many-put}
use Rattle.laws.proofs.Counting.{one_most, one_no, many-keep}
use Rattle.frame.specs.declared.Message.{Message}
use Rattle.frame.specs.Message.{msg, is_return, counted, known, last_counter, stamp, by, own_return}
use Rattle.frame.specs.Frame.{fields_of}
use Rattle.frame.specs.Demand2.{InWidth}
use Rattle.calls.specs.declared.Own.TheVariants.{Taking, Returning}
use Rattle.calls.specs.declared.Start.{Start}
use Rattle.queue.specs.Queue.{Queue, clock, heard, waiting, latest}
use Rattle.calls.specs.Replies.{Call, own_call, receive_call, value_call, missing_call}
use Rattle.calls.specs.View.{acks}
use Rattle.queue.specs.Calls.{view, saying, say, accept, on_queue}
use Rattle.queue.proofs.Good.{Fit, Proper, New, le_clock}
use Rattle.queue.proofs.Changes.{Change, unchanged, spoke, accepted, change}
use Rattle.queue.proofs.Granted.{grants_in, holding-latest}
use Rattle.queue.proofs.Marks.{holds}
use Rattle.queue.proofs.Holding.{Kept, kept_change, kept-empty}
use Rattle.queue.proofs.Waiting.{none_waits}
use Rattle.queue.proofs.Settling.{Between, waits_on, between_say, arrived, between_accept}
use Rattle.queue.proofs.Clocks.{clock-say, clock-accept}

pub record Fitting (st : Start) (q : Queue) : Type 0 where
  pub kept : Kept st q
  -- of another sender at most 4 wait, of the post's own returns at most one
  pub few : (r : ℕ) → r < st.posts → (r ≡ st.own → ⊥) → many (by r) (waiting st q) ≤ 4
  pub own : many (own_return st.own) (waiting st q) ≤ 1
  pub width : clock q ≤ last_counter

pub fitting-empty : (st : Start) → Fit st → Fitting st []
unfolding keep waiting clock top
fitting-empty st fit = record { kept = kept-empty st fit; few = λ r l d. omega arith; own = omega arith; width = omega arith }

-- a proper message fits the bytes of its frame where its counter does
pub proper_width : (st : Start) → st.posts ≤ 16 → st.feeder ≤ 255 → (m : Message) → Proper st m → m.counter ≤ last_counter → InWidth st.feeder m
proper_width st few f m p c =
    let a = p.sender in
    let k = leb→le m.kind 3 (and_r (leb 1 m.kind) (leb m.kind 3) p.kind) in
    record { feeder = omega arith; kind = omega arith; sender = omega arith; counter = omega arith }

-- so every message of a queue does
pub fitting_width : (st : Start) → st.feeder ≤ 255 → (q : Queue) → Fitting st q → (m : Message) → In m q → InWidth st.feeder m
fitting_width st f q k m i =
    let g = k.kept.good.sorted in
    let a = le_clock q m i in
    let b = k.width in
    proper_width st g.fit.few f m (g.proper m i) (omega arith)

-- the counter of a received frame fits its bytes
abbrev pub CounterFits : Call → Type 0
CounterFits (own_call o lent) = Unit
CounterFits (receive_call s lent) = (fields_of s).message.counter ≤ last_counter
CounterFits value_call = Unit
CounterFits missing_call = Unit

-- ---- what waits after a call is of what waited and what is new

many-after : (st : Start) (q q' : Queue) (v : List Message) → Between st q q' v → (f : Message → Bool) → many f (waiting st q') ≤ many f v
many-after st q q' v b f =
    let e = ap (many f) (waits_on st q q' v b) in
    let h = many-keep f (λ m. not (heard st q' m)) v in
    omega arith

-- an own take or return, where at most n pass a test with it, or without it where the test does not see it
said : (st : Start) (q : Queue) → Fitting st q → (kind : ℕ) → T (known kind) → T (counted (msg kind 0 0)) → (f : Message → Bool)
    → many f (waiting st (say st kind q)) ≤ one? (f (saying st kind q)) + many f (waiting st q)
said st q k kind x c f =
    let b = between_say st q k.kept.good.sorted kind x c in
    let a = many-after st q (say st kind q) (put stamp (saying st kind q) (waiting st q)) b f in
    let p = many-put f stamp (saying st kind q) (waiting st q) in
    omega arith

others_few : (st : Start) (q : Queue) → Fitting st q → (kind : ℕ) → T (known kind) → T (counted (msg kind 0 0))
    → (r : ℕ) → r < st.posts → (r ≡ st.own → ⊥) → many (by r) (waiting st (say st kind q)) ≤ 4
unfolding saying
others_few st q k kind x c r l d =
    let a = said st q k kind x c (by r) in
    let z = one_eqb st.own r (λ e. d (sym e)) in
    let o = k.few r l d in
    omega arith

-- nothing of a post that holds waits
none_held : (st : Start) (q : Queue) → Kept st q → T (holds st q) → many (own_return st.own) (waiting st q) ≡ 0
none_held st q k z =
    many_none (own_return st.own) (waiting st q) (λ m i y.
    none_waits st q k.good.sorted.rising k.paid (grants_in st q (latest st q) (holding-latest st q z)).heard_there m i
    (and_l (by st.own m) (is_return m) y))

module _ (st : Start) (q : Queue) (m : Message) (k : Fitting st q) (w : New st q m) where
  came : (f : Message → Bool) (n : ℕ) → many f (waiting st q) ≤ n → (T (counted m) → one? (f m) + many f (waiting st q) ≤ n)
      → many f (waiting st (accept st q m)) ≤ n
  came f n old new =
      let a = many-after st q (accept st q m) (arrived st q m) (between_accept st q k.kept.good.sorted m w) f in
      let b : many f (arrived st q m) ≤ n =
      cond_both (λ v. many f v ≤ n) (counted m) (put stamp m (waiting st q)) (waiting st q)
      (λ c. let p = many-put f stamp m (waiting st q) in let h = new c in omega arith)
      (λ x. old)
      in
      omega arith

  -- one more of a sender that had fewer than 4
  came-few : (r : ℕ) → r < st.posts → (r ≡ st.own → ⊥) → many (by r) (waiting st (accept st q m)) ≤ 4
  came-few r l d =
      came (by r) 4 (k.few r l d) (λ c.
      test (by r m)
      (λ y.
      let f = subst (λ (x : ℕ). many (by x) (waiting st q) < 4) (eqb→eq m.sender r y) (w.few c) in
      let o = one_most (by r m) in
      omega arith)
      (λ n. let f = k.few r l d in let o = one_no (by r m) n in omega arith))

  came_own : many (own_return st.own) (waiting st (accept st q m)) ≤ 1
  came_own =
      came (own_return st.own) 1 k.own (λ c.
      let f = own_return st.own m in
      let z = one_no f (not_T f (λ y. w.other (eqb→eq m.sender st.own (and_l (by st.own m) (is_return m) y)))) in
      let o = k.own in
      omega arith)

  came_width : m.counter ≤ last_counter → clock (accept st q m) ≤ last_counter
  came_width c =
      rw (clock-accept st q m) (cond_both (λ x. x ≤ last_counter) (acks (view st q) m) (suc (max (clock q) m.counter)) (max (clock q) m.counter)
      (λ y. let r = w.room y in let a = r.0 in let b = r.1 in omega arith)
      (λ n. let o = k.width in omega arith))

pub fitting_change : (st : Start) (c : Call) (q q' : Queue) → CounterFits c → Change st q c q' → Fitting st q → Fitting st q'
unfolding saying
fitting_change st c q q' f unchanged k = k
fitting_change st c q q' f (spoke {o = Taking} z l) k =
    let own = said st q k 1 tt tt (own_return st.own) in
    let none = ap one? (and-false (by st.own (saying st 1 q))) in
    let old = k.own in
    record {
      kept = kept_change st c q q' (spoke {o = Taking} z l) k.kept;
      few = others_few st q k 1 tt tt;
      own = omega arith;
      width = let e = clock-say st 1 q in omega arith;
    }
fitting_change st c q q' f (spoke {o = Returning} z l) k =
    let own = said st q k 2 tt tt (own_return st.own) in
    let none = none_held st q k.kept z in
    let one = one_most (own_return st.own (saying st 2 q)) in
    record {
      kept = kept_change st c q q' (spoke {o = Returning} z l) k.kept;
      few = others_few st q k 2 tt tt;
      own = omega arith;
      width = let e = clock-say st 2 q in omega arith;
    }
fitting_change st c q q' f (accepted {s = s} w) k =
    let m = (fields_of s).message in
    record {
      kept = kept_change st c q q' (accepted w) k.kept;
      few = came-few st q m k w;
      own = came_own st q m k w;
      width = came_width st q m k w f;
    }

pub fitting_next : (st : Start) (q : Queue) → Fitting st q → (c : Call) → CounterFits c → Fitting st (on_queue st q c).next
fitting_next st q k c f = fitting_change st c q (on_queue st q c).next f (change st q c) k
