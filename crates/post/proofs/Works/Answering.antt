-- What the calls give back, from what their parts give. Assumes nothing.
use mathlib.Core.Path.{◌≡◌, refl, ap, ◌∙◌, sym, subst}
use mathlib.Core.Bool.{Bool, true, false, cond}
use Rattle.laws.proofs.Tests.{cond_both}
use mathlib.Core.List.{List}
use Prim.Native.Nat.{ℕ, ◌+◌, ◌-◌, ◌≤◌, max}
use native.Mathlib.Omega.{arith}
use borrow.Author.Tests.{eq-eqb, ne_eqb, le-ltb}
use lib.Dec.{T}
use lib.Ieee.Bits.{is_true}
use lib.ListN.{length, replicate}
use lib.Seq.{drop_at, set-set}
use Rattle.laws.specs.Ladder.{Row, refusal, unless}
use Rattle.laws.specs.Lists.{put}
use Rattle.laws.proofs.Ladders.{on, off, not_off, unrefused}
use Rattle.laws.proofs.CountLaws.{length-put}
use Rattle.frame.specs.declared.Message.{Message}
use Rattle.frame.specs.Message.{blank, msg, ack_kind, known, counted, stamp}
use Rattle.calls.specs.declared.Own.{Own}
use Rattle.calls.specs.Own.{row_of}
use Rattle.calls.specs.View.{acks}
use Rattle.calls.proofs.Passing.{own_known, Speaks}
use Rattle.frame.specs.Frame.{size, over, message_rows, write_rows, write_no, bytes_after, Written}
use Rattle.post.specs.declared.Post.{Post}
use Rattle.post.specs.declared.Answer.{Answer}
use Rattle.frame.specs.declared.refusal.Refusal.{Refusal}
use Rattle.frame.specs.Refusal.{number}
use Rattle.frame.proofs.Refusals.{not_zero}
use Rattle.post.specs.Record.{start_of, waiting_of, made, remade}
use Rattle.post.specs.Sound.{sound}
use Rattle.post.specs.Settle.{settle}
use Rattle.post.specs.Calls.{view_of, own_rows, saying, spoken, came, Outcome, Gives, answer_told, answer, refused, stays, said, heard_from, spoke}
use Rattle.post.specs.Inside.{joined, noted, acknowledgment_of, Countable}
use Rattle.post.proofs.Sound.Facts.{sound_has}
use Rattle.post.proofs.Fields.Shape.{Kept, length-waiting}
use Rattle.post.proofs.Works.Passed.{speaks}
use Rattle.post.proofs.Fields.Values.{counts_small}
use Rattle.post.proofs.Works.Remaking.{has_room}

-- ---- the counts stay small

module _ (p : Post) (k : Kept p) where
  remade_countable : (clock : ℕ) (last : List ℕ) (ms : List Message) (phase order : ℕ) → length ms ≤ 62 → Countable (remade p clock last ms phase order)
  unfolding remade
  remade_countable clock last ms phase order h =
      let s = sound_has p k.sound in
      let c = counts_small p s k.width in
      record {
        posts = s.range.posts_high;
        waits = h;
        blanks = drop_at ms (replicate (62 - length ms) blank) (length ms) refl;
        takes = omega arith;
        returns = omega arith;
      }

  length_with : (m : Message) → length (put stamp m (waiting_of p)) ≤ 62
  length_with m =
      let a = length-put stamp m (waiting_of p) in
      let b = length-waiting p (sound_has p k.sound) k.shape in
      let h = has_room p k in
      omega arith

  pub joined_countable : (m : Message) (clock : ℕ) {q : Post} → q ≡ joined p m clock → Countable q
  unfolding joined
  joined_countable m clock e = rw e (remade_countable _ _ _ _ _ (length_with m))

  pub came_countable : (m : Message) {q : Post} → q ≡ came p m → Countable q
  unfolding came
  came_countable m e =
      let s = sound_has p k.sound in
      rw e
      (remade_countable _ _ _ _ _
      (cond_both (λ (l : List Message). length l ≤ 62) (counted m) (put stamp m (waiting_of p)) (waiting_of p)
      (λ y. length_with m)
      (λ n. let b = length-waiting p s k.shape in let w = s.waits in omega arith)))

  -- a message that is only noted leaves those that wait as they are
  pub noted_countable : (m : Message) → Countable (noted p m)
  unfolding noted
  noted_countable m =
      let s = sound_has p k.sound in
      remade_countable _ _ _ _ _ (let b = length-waiting p s k.shape in let w = s.waits in omega arith)

-- in another phase, under another order number
abbrev pub turned_to : Post → ℕ → ℕ → Post
turned_to p phase order = made (start_of p) p.clock p.last p.waits p.slots p.takes p.returns phase order

pub turned_countable : {q : Post} → Countable q → (phase order : ℕ) → Countable (turned_to q phase order)
turned_countable c phase order = record { posts = c.posts; waits = c.waits; blanks = c.blanks; takes = c.takes; returns = c.returns }

-- ---- the frame

-- a good message has a frame where there is room
pub can_write : (old : List ℕ) (m : Message) → T (known m.kind) → m.sender ≤ 15 → 1 ≤ m.counter → size ≤ length old → write_no old m ≡ 0
unfolding write_rows message_rows
can_write old m kind sender counter room =
    unrefused (write_rows (length old) m)
    (le-ltb (length old) size room, (not_off (known m.kind) (is_true (known m.kind) kind), (le-ltb 15 m.sender sender, (ne_eqb m.counter 0 (λ z. omega arith), tt))))

-- so it is written
module _ {old new : List ℕ} {f : ℕ} {m : Message} {n : ℕ} (w : Written old new f m n) (z : write_no old m ≡ 0) where
  is_written : new ≡ over f m old
  unfolding bytes_after
  is_written = w.leaves ∙ sym (on _ _ _ (eq-eqb (write_no old m) 0 z) refl)

-- ---- the answers

-- an outcome by its name
among : {o o' : Outcome} → o ≡ o' → {r : Answer} {new : List ℕ} → Gives o r new → Gives o' r new
among e {r} {new} = subst (λ (x : Outcome). Gives x r new) e

module _ (p : Post) (rows : List Row) (lent : List ℕ) (o : Outcome) where
  pub not_done : (n : Refusal) → number n ≡ refusal rows → {r : Answer} → answer_told r ≡ refused p (number n) → Gives (unless rows (stays p lent) o) r lent
  unfolding unless
  not_done n e h =
      let f = ne_eqb (refusal rows) 0 (λ q. not_zero n (e ∙ q)) in
      among (off _ _ _ f refl) (record { gives = h ∙ ap (refused p) e; leaves = refl })

  pub is_done : 0 ≡ refusal rows → {r : Answer} {new : List ℕ} → Gives o r new → Gives (unless rows (stays p lent) o) r new
  unfolding unless
  is_done z = among (on _ _ _ (eq-eqb (refusal rows) 0 (sym z)) refl)

-- an own message that has joined is spoken
joined_own : (o : Own) (p : Post) → let m = saying p (row_of o).kind in turned_to (joined p m m.counter) (row_of o).to 0 ≡ spoken o p
unfolding joined spoken remade
joined_own o p =
    let m = saying p (row_of o).kind in
    ap (λ (l : List ℕ). remade p m.counter l (put stamp m (waiting_of p)) (row_of o).to 0) (set-set p.last p.own m.counter m.counter)

-- an own message that no row refuses
module _ (o : Own) (p : Post) (lent : List ℕ) (z : 0 ≡ refusal (own_rows o p (length lent))) where
  pub passed : T (sound p) × Speaks o (view_of p) (length lent)
  passed = speaks o p (length lent) (sym z)

  pub said_written : write_no lent (saying p (row_of o).kind) ≡ 0
  said_written =
      let s = sound_has p passed.0 in
      let own = s.range.own_low in
      let few = s.range.posts_high in
      can_write lent (saying p (row_of o).kind) (own_known o) (omega arith) (omega arith) passed.1.room

  pub is_said : {k : ℕ} {next : Post} {r : Answer} {new : List ℕ}
      → (let m = saying p (row_of o).kind in next ≡ joined p m m.counter)
      → answer_told r ≡ answer p.phase (settle (turned_to next (row_of o).to 0)) true → Written lent new p.feeder (saying p (row_of o).kind) k → Gives (spoke o p lent) r new
  is_said j a w =
      is_done p (own_rows o p (length lent)) lent (said o p lent) z (record {
        gives = a ∙ ap (λ (x : Post). answer p.phase (settle x) true) (ap (λ (x : Post). turned_to x (row_of o).to 0) j ∙ joined_own o p);
        leaves = is_written w said_written;
      })

-- a message received: put among the waiting and acknowledged, or neither
module _ (p : Post) (m : Message) {next : Post} where
  pub joined-came : T (counted m) → T (acks (view_of p) m) → {c : ℕ} → c ≡ max p.clock m.counter → next ≡ joined p m (c + 1) → next ≡ came p m
  unfolding joined came
  joined-came h y e j = j ∙ ap (λ (x : ℕ). joined p m (x + 1)) e ∙ rw (is_true (counted m) h, is_true (acks (view_of p) m) y)

  pub noted-came : counted m ≡ false → acks (view_of p) m ≡ false → next ≡ noted p m → next ≡ came p m
  unfolding noted came
  noted-came h y j = j ∙ rw (h, y)

module _ (p : Post) (m : Message) (lent : List ℕ) where
  pub ack_written : (c : ℕ) → p.own ≤ 15 → size ≤ length lent → write_no lent (msg ack_kind p.own (c + 1)) ≡ 0
  ack_written c own room = can_write lent (msg ack_kind p.own (c + 1)) tt own (omega arith) room

  pub is_acknowledged : T (acks (view_of p) m) → {c : ℕ} {new : List ℕ} {n : ℕ} → c ≡ max p.clock m.counter
      → Written lent new p.feeder (msg ack_kind p.own (c + 1)) n → p.own ≤ 15 → size ≤ length lent → new ≡ acknowledgment_of p m lent
  is_acknowledged y {c} e w own room =
      is_written w (ack_written c own room)
      ∙ ap (λ (x : ℕ). over p.feeder (msg ack_kind p.own (x + 1)) lent) e
      ∙ sym (rw (is_true (acks (view_of p) m) y))

  pub is_heard : {next : Post} {r : Answer} {new : List ℕ} {a : Bool} → next ≡ came p m → new ≡ cond (acks (view_of p) m) (acknowledgment_of p m lent) lent
      → a ≡ acks (view_of p) m → answer_told r ≡ answer p.phase (settle next) a → Gives (heard_from p m lent) r new
  unfolding heard_from
  is_heard j l e h = record { gives = h ∙ (λ i. answer p.phase (settle (j i)) (e i)); leaves = l }
