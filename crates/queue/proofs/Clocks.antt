-- The clock and the last counters after a message is put in, said or accepted. Assumes nothing.
use mathlib.Core.Path.{◌≡◌, sym, ap, ◌∙◌}
use mathlib.Core.Bool.{Bool, true, false, cond}
use Prim.Native.Nat.{ℕ, suc, ◌≤◌, max}
use native.Mathlib.Omega.{arith}
use lib.Dec.{not_T, eqb→eq, eqb_refl}
use Rattle.laws.specs.Lists.{keep, put, top}
use Rattle.laws.proofs.ListLaws.{keep_in, keep_none}
use Rattle.laws.proofs.RisingLaws.{keep-put_no, top_mono}
use Rattle.laws.proofs.Counting.{top-put, top-keep-put}
use Rattle.frame.specs.declared.Message.{Message}
use Rattle.frame.specs.Message.{ack_kind, stamp, by}
use Rattle.calls.specs.declared.Start.{Start}
use Rattle.queue.specs.Queue.{Queue, clock, last}
use Rattle.calls.specs.View.{acks}
use Rattle.queue.specs.Calls.{view, saying, say, accept}
use Rattle.queue.proofs.Good.{Sorted, New}

abbrev counter : Message → ℕ
counter m = m.counter

pub clock-put : (m : Message) (q : Queue) → clock (put stamp m q) ≡ max (clock q) m.counter
unfolding clock
clock-put m q = let e = top-put counter stamp m q in omega arith

pub clock-say : (st : Start) (kind : ℕ) (q : Queue) → clock (say st kind q) ≡ suc (clock q)
unfolding say saying
clock-say st kind q = let e = clock-put (saying st kind q) q in omega arith

pub clock-accept : (st : Start) (q : Queue) (m : Message)
    → let c = max (clock q) m.counter in clock (accept st q m) ≡ cond (acks (view st q) m) (suc c) c
unfolding accept
clock-accept st q m = go (acks (view st q) m)
  where
    go : (b : Bool) → let c = max (clock q) m.counter in clock (cond b (say st ack_kind (put stamp m q)) (put stamp m q)) ≡ cond b (suc c) c
    go true = clock-say st ack_kind (put stamp m q) ∙ ap suc (clock-put m q)
    go false = clock-put m q

-- ---- the last counters

pub last_le_clock : (r : ℕ) (q : Queue) → last r q ≤ clock q
unfolding last clock
last_le_clock r q = top_mono counter (keep (by r) q) q (λ a i. (keep_in (by r) a q i).0)

-- of no post, none
pub last_none : (st : Start) (q : Queue) → Sorted st q → (r : ℕ) → st.posts ≤ r → last r q ≡ 0
unfolding last top
last_none st q g r h =
    ap (top counter) (keep_none (by r) q (λ a i.
    not_T (by r a) (λ y. let e = eqb→eq a.sender r y in let l = (g.proper a i).sender in omega arith)))

last-put : (m : Message) (q : Queue) → last m.sender (put stamp m q) ≡ max m.counter (last m.sender q)
unfolding last
last-put m q = top-keep-put counter stamp (by m.sender) m q (eqb_refl m.sender)

pub last-put_other : (m : Message) (q : Queue) (r : ℕ) → (r ≡ m.sender → ⊥) → last r (put stamp m q) ≡ last r q
unfolding last
last-put_other m q r d = ap (top counter) (keep-put_no stamp (by r) m q (not_T (by r m) (λ y. d (sym (eqb→eq m.sender r y)))))

pub last_new : (st : Start) (q : Queue) (m : Message) → New st q m → last m.sender (put stamp m q) ≡ m.counter
last_new st q m w = let e = last-put m q in let a = w.above in omega arith

pub last-said : (st : Start) (kind : ℕ) (q : Queue) → last st.own (say st kind q) ≡ suc (clock q)
unfolding say saying
last-said st kind q = let e = last-put (saying st kind q) q in let h = last_le_clock st.own q in omega arith

pub last-said_other : (st : Start) (kind : ℕ) (q : Queue) (r : ℕ) → (r ≡ st.own → ⊥) → last r (say st kind q) ≡ last r q
unfolding say saying
last-said_other st kind q r d = last-put_other (saying st kind q) q r d
