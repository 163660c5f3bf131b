-- One turn of the look over the waiting messages, and what it found after the last. Assumes nothing.
use mathlib.Core.Path.{◌≡◌, refl, ap, ◌∙◌, sym, subst}
use mathlib.Core.Bool.{Bool, true, false, cond, ◌&&◌, and-false}
use mathlib.Core.List.{List, [], ◌∷◌}
use Prim.Native.Nat.{ℕ, ◌+◌, ◌≤◌, ◌<◌}
use native.Mathlib.Omega.{arith}
use native.Mathlib.Nat.{zero-add}
use borrow.Author.Tests.{lt-ltb, le-ltb, ne_eqb}
use lib.Dec.{T, leb, ltb, eqb, eqb→eq, ltb→lt, nltb→le}
use lib.ListN.{length, get_or, take, drop, set, replicate, length-set, get_or-replicate, drop_of_length-le}
use lib.Seq.{get_or-set_same, get_or-set_other, get_or-take, length-take-le}
use Rattle.std.specs.List.{list_all}
use Rattle.std.specs.Bool.{then_some}
use Rattle.laws.specs.Lists.{keep, all, many, rises}
use Rattle.laws.specs.Below.{one?}
use Rattle.laws.proofs.Tests.{test, neqb→ne}
use Rattle.laws.proofs.BelowLaws.{one_yes, one_eqb}
use Rattle.laws.proofs.ListLaws.{many_cons, all_is}
use Rattle.laws.proofs.ScanLaws.{many-length, next_drop}
use Rattle.laws.proofs.Ladders.{one_off}
use Rattle.frame.specs.declared.Message.{Message}
use Rattle.frame.specs.Message.{blank, take_kind, return_kind, counted, is_take, is_return, stamp, by}
use Rattle.post.specs.declared.slots.Seen.{Seen}
use Rattle.post.specs.declared.Post.{Post}
use Rattle.post.specs.Record.{waiting_of}
use Rattle.post.specs.Inside.{Found, in_order, Looked}
use Rattle.post.specs.Sound.{fair, is_blank, end_kind}

-- among the last counters of the posts alone
pub fair_first : (posts : ℕ) (last : List ℕ) (m : Message) → posts ≤ length last → fair (length (take posts last)) (take posts last) m ≡ fair posts last m
unfolding fair
fair_first posts last m h =
    rw length-take-le (
    test (ltb m.sender posts)
    (λ y. ap (λ (c : ℕ). ltb m.sender posts && (counted m && (leb 1 m.counter && leb m.counter c))) (get_or-take posts last m.sender 0 (ltb→lt m.sender posts y)))
    (λ n. rw (le-ltb m.sender posts (nltb→le m.sender posts n))))

-- a counted message that is no take is a return
pub else_return : (m : Message) → T (counted m) → (m.kind ≡ take_kind → ⊥) → m.kind ≡ return_kind
else_return m t d = eqb→eq m.kind return_kind (rw (ne_eqb m.kind take_kind d) at t)

-- a fault among those that wait
pub broken : (p : Post) (f : ℕ) {ms : List Message} → ms ≡ waiting_of p → (all (fair p.posts p.last) ms && rises stamp f ms) ≡ false → in_order p f ≡ false
unfolding in_order
broken p f e n = one_off _ _ (rw e at n)

module _ (posts own : ℕ) (last : List ℕ) (t : ℕ) (ms : List Message) where
  -- what has been found, with the rest still to be looked at
  pub record Going (rest : List Message) (top : ℕ) (seen : Seen) : Type 0 where
    pub orderly : (all (fair posts last) rest && rises stamp top rest) ≡ (all (fair posts last) ms && rises stamp t ms)
    pub each : (q : ℕ) → q < 16 → get_or seen.counts q 0 + many (by q) rest ≡ many (by q) ms
    pub takes : seen.takes + many (λ m. by own m && is_take m) rest ≡ many (λ m. by own m && is_take m) ms
    pub returns : seen.returns + many (λ m. by own m && is_return m) rest ≡ many (λ m. by own m && is_return m) ms
    pub end : end_kind own seen.end rest ≡ end_kind own 0 ms
    pub sixteen : length seen.counts ≡ 16

  pub begun : Going ms t (record { counts = replicate 16 0; takes = 0; returns = 0; end = 0 })
  begun = record {
    orderly = refl;
    each = λ q l. ap (λ (x : ℕ). x + many (by q) ms) (get_or-replicate 16 q 0 0 l) ∙ zero-add (many (by q) ms);
    takes = zero-add _;
    returns = zero-add _;
    end = refl;
    sixteen = refl;
  }

  -- one that is still to be looked at, and those after it
  pub here : {i top : ℕ} {seen : Seen} → i < length ms → Going (drop i ms) top seen → Going (get_or ms i blank ∷ drop (i + 1) ms) top seen
  here {i} {top} {seen} h g = subst (λ (r : List Message). Going r top seen) (next_drop ms i blank h) g

  -- none is left
  pub none_left : {i top : ℕ} {seen : Seen} → length ms ≤ i → Going (drop i ms) top seen → Going [] top seen
  none_left {i} {top} {seen} h g = subst (λ (r : List Message). Going r top seen) (drop_of_length-le ms {i = i} h) g

  module _ {m : Message} {rest : List Message} {top : ℕ} {seen : Seen} (g : Going (m ∷ rest) top seen) where
    pub unfair : fair posts last m ≡ false → (all (fair posts last) ms && rises stamp t ms) ≡ false
    unfolding all
    unfair f = sym g.orderly ∙ rw f

    pub low : stamp m ≤ top → (all (fair posts last) ms && rises stamp t ms) ≡ false
    unfolding rises
    low h = sym g.orderly ∙ rw (le-ltb top (stamp m) h) (and-false (all (fair posts last) (m ∷ rest)))

    -- nothing that is counted overruns a byte
    pub takes_small : length ms ≤ 62 → seen.takes < 255
    takes_small h = let a = g.takes in let b = many-length (λ x. by own x && is_take x) ms in omega arith

    pub returns_small : length ms ≤ 62 → seen.returns < 255
    returns_small h = let a = g.returns in let b = many-length (λ x. by own x && is_return x) ms in omega arith

    pub each_small : length ms ≤ 62 → (q : ℕ) → q < 16 → get_or seen.counts q 0 < 255
    each_small h q l = let a = g.each q l in let b = many-length (by q) ms in omega arith

    pub turned : fair posts last m ≡ true → m.sender < 16 → {top' : ℕ} → top' ≡ stamp m → top < top' → (seen' : Seen)
        → seen'.counts ≡ set seen.counts m.sender (get_or seen.counts m.sender 0 + 1)
        → seen'.takes ≡ seen.takes + one? (by own m && is_take m) → seen'.returns ≡ seen.returns + one? (by own m && is_return m) → seen'.end ≡ cond (by own m) m.kind seen.end
        → Going rest top' seen'
    unfolding all rises end_kind
    turned f h p l seen' pc pt pr pe =
        let s = m.sender in
        let counts = seen.counts in
        record {
          orderly = ap (λ (x : ℕ). all (fair posts last) rest && rises stamp x rest) p ∙ sym (rw (f, lt-ltb top (stamp m) (omega arith))) ∙ g.orderly;
          each = λ q lq. test (eqb s q)
              (λ y. let d = eqb→eq s q y in
              let a = g.each q lq in
              let b = many_cons (by q) m rest in
              let o = one_yes (eqb s q) y in
              let n = get_or-set_same counts s (get_or counts s 0 + 1) 0 (let z = g.sixteen in omega arith) in
              let n' : get_or (set counts s (get_or counts s 0 + 1)) q 0 ≡ get_or counts q 0 + 1 = subst (λ (x : ℕ). get_or (set counts s (get_or counts s 0 + 1)) x 0 ≡ get_or counts x 0 + 1) d n in
              rw pc (omega arith))
              (λ y. let a = g.each q lq in
              let b = many_cons (by q) m rest in
              let o = one_eqb s q (neqb→ne s q y) in
              let n = get_or-set_other counts s q (get_or counts s 0 + 1) 0 (λ z. neqb→ne s q y (sym z)) in
              rw pc (omega arith));
          takes = let a = g.takes in let b = many_cons (λ x. by own x && is_take x) m rest in omega arith;
          returns = let a = g.returns in let b = many_cons (λ x. by own x && is_return x) m rest in omega arith;
          end = ap (λ (x : ℕ). end_kind own x rest) pe ∙ g.end;
          sixteen = ap length pc ∙ length-set counts s _ ∙ g.sixteen;
        }

  -- after the last of them
  pub right : {top : ℕ} {seen : Seen} → Going [] top seen → (all (fair posts last) ms && rises stamp t ms) ≡ true
  unfolding all rises
  right g = sym g.orderly

  pub found : {top : ℕ} {seen : Seen} → Going [] top seen → Found own ms seen
  unfolding keep end_kind
  found g = record {
    counts = λ q l. let a = g.each q l in omega arith;
    takes = let a = g.takes in omega arith;
    returns = let a = g.returns in omega arith;
    end = g.end;
  }

-- what is found is handed on where the rules hold
pub seen_if : (p : Post) (seen : Seen) {rules : Bool} (holds : Bool) → rules ≡ holds → Found p.own (waiting_of p) seen → Looked p rules (then_some holds seen)
seen_if p seen true e found = (e, found)
seen_if p seen false e found = e

-- the look's answer, from what it found of those that wait and of the slots after them
pub looked : (p : Post) (f : ℕ) {ms unused : List Message} {blanks : Bool} → ms ≡ waiting_of p → unused ≡ drop p.waits p.slots → blanks ≡ list_all is_blank unused
    → (seen : Seen) → (all (fair p.posts p.last) ms && rises stamp f ms) ≡ true → Found p.own ms seen → Looked p (in_order p f) (then_some blanks seen)
unfolding in_order
looked p f {blanks = blanks} m u b seen r found = seen_if p seen blanks (rw (← m, r, ← u, all_is) (sym b)) (rw m at found)
