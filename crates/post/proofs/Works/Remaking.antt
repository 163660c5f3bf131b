-- The record that the code makes, as the definitions make it anew. Assumes nothing.
use mathlib.Core.Path.{◌≡◌, ap, ap₂, ◌∙◌, sym}
use mathlib.Core.List.{List, ◌++◌, append_assoc}
use Prim.Native.Nat.{ℕ, ◌+◌, ◌-◌, ◌^◌, ◌≤◌, ◌<◌}
use native.Mathlib.Omega.{arith}
use mathlib.Core.Bool.{Bool, cond}
use lib.Dec.{eqb}
use lib.ListN.{length, drop, replicate, length-drop, take, take-append-drop, replicate-append-replicate}
use lib.Seq.{drop-drop, slice, length-slice, length-take-le, take-take}
use Rattle.laws.proofs.LeadingLaws.{leading_length}
use Rattle.laws.proofs.ScanLaws.{many-length}
use Rattle.std.specs.Prelude.{unwrap_or}
use Rattle.laws.specs.Lists.{many, put, leading}
use Rattle.laws.proofs.CountLaws.{length-put}
use Rattle.std.proofs.lemmas.List.{drop-replicate}
use Rattle.frame.specs.declared.Message.{Message}
use Rattle.frame.specs.Message.{blank, is_take, is_return, stamp}
use Rattle.post.specs.declared.Post.{Post}
use Rattle.post.specs.declared.slots.Gone.{Gone}
use Rattle.post.specs.Record.{start_of, waiting_of, floor, in_slots, made, remade}
use Rattle.post.specs.Settle.{gone, left, own_number, order_after, tallied, free, phase_after, in_phase, settle}
use Rattle.post.specs.Inside.{Left, Countable}
use Rattle.post.proofs.Sound.Facts.{Sound, sound_has}
use Rattle.post.proofs.Fields.Shape.{Kept, length-waiting}
use Rattle.post.proofs.Fields.Most.{most}

module _ (p : Post) (k : Kept p) where
  facts : Sound p
  facts = sound_has p k.sound

  unused : (i : ℕ) → p.waits ≤ i → drop i p.slots ≡ replicate (62 - i) blank
  unfolding facts
  unused i h =
      let s = facts in
      let shape = k.shape.slots in
      let n = length-drop p.waits p.slots in
      let w = s.waits in
      let k : length (drop p.waits p.slots) - (i - p.waits) ≡ 62 - i = omega arith in
      ap (λ (x : ℕ). drop x p.slots) (let e : i ≡ p.waits + (i - p.waits) = omega arith in e)
      ∙ sym (drop-drop (i - p.waits) p.waits p.slots)
      ∙ ap (drop (i - p.waits)) s.blanks
      ∙ drop-replicate (i - p.waits) (length (drop p.waits p.slots)) blank
      ∙ ap (λ (x : ℕ). replicate x blank) k

  waits_is : length (waiting_of p) ≡ p.waits
  unfolding facts
  waits_is = length-waiting p facts k.shape

  -- one message more
  pub with_message : (clock : ℕ) (last : List ℕ) (m : Message) (slots : List Message) (phase order : ℕ)
      → slots ≡ put stamp m (waiting_of p) ++ drop (p.waits + 1) p.slots
      → made (start_of p) clock last (p.waits + 1) slots p.takes p.returns phase order ≡ remade p clock last (put stamp m (waiting_of p)) phase order
  unfolding remade
  with_message clock last m slots phase order e =
      let ms = put stamp m (waiting_of p) in
      let n : p.waits + 1 ≡ length ms = (let a = length-put stamp m (waiting_of p) in let b = waits_is in omega arith) in
      let f : slots ≡ in_slots ms = e ∙ ap (λ (x : List Message). ms ++ x) (unused (p.waits + 1) (omega arith) ∙ ap (λ (x : ℕ). replicate (62 - x) blank) n) in
      ap₂ (λ (w : ℕ) (x : List Message). made (start_of p) clock last w x p.takes p.returns phase order) n f

  -- the same messages
  pub without_message : (clock : ℕ) (last : List ℕ)
      → made (start_of p) clock last p.waits p.slots p.takes p.returns p.phase p.order ≡ remade p clock last (waiting_of p) p.phase p.order
  unfolding remade
  without_message clock last =
      let n : p.waits ≡ length (waiting_of p) = sym waits_is in
      let f : p.slots ≡ in_slots (waiting_of p) =
      sym (take-append-drop p.waits p.slots) ∙ ap (λ (x : List Message). waiting_of p ++ x) (unused p.waits (omega arith) ∙ ap (λ (x : ℕ). replicate (62 - x) blank) n) in
      ap₂ (λ (w : ℕ) (x : List Message). made (start_of p) clock last w x p.takes p.returns p.phase p.order) n f

  pub has_room : p.waits < 62
  has_room = let h = most p k.shape k.width k.sound in omega arith

  -- the first n of one more
  pub first_slots : let l = take (p.waits + 1) p.slots in (0 < length l) × (take (length l - 1) l ≡ waiting_of p)
  first_slots =
      let r = has_room in
      let shape = k.shape.slots in
      let n = length-take-le (p.waits + 1) p.slots (omega arith) in
      (omega arith, ap (λ (x : ℕ). take x (take (p.waits + 1) p.slots)) (let e : length (take (p.waits + 1) p.slots) - 1 ≡ p.waits = omega arith in e) ∙ take-take p.waits (p.waits + 1) p.slots (omega arith))

-- the slots once the first k of n have left
left_slots : (l : List Message) (k n : ℕ) → k ≤ n → n ≤ 62 → length l ≡ 62 → drop n l ≡ replicate (62 - n) blank
    → (drop k (take n l) ++ replicate k blank) ++ drop n l ≡ in_slots (drop k (take n l))
left_slots l k n h b e z =
    let s = slice k n l in
    let d = length-slice k n l (omega arith) in
    let r : k + (62 - n) ≡ 62 - length s = omega arith in
    ap (λ (x : List Message). (s ++ replicate k blank) ++ x) z
    ∙ append_assoc s (replicate k blank) (replicate (62 - n) blank)
    ∙ ap (λ (x : List Message). s ++ x) (replicate-append-replicate k (62 - n) blank ∙ ap (λ (x : ℕ). replicate x blank) r)

-- ---- settling

module _ (p : Post) (z : Countable p) (l : length p.slots ≡ 62) where
  length_taken : length (waiting_of p) ≡ p.waits
  length_taken = let w = z.waits in length-take-le p.waits p.slots (omega arith)

  module _ (f : ℕ) {ws : List Message} {g : Gone} (w : ws ≡ waiting_of p) (v : Left p.own p.takes (leading stamp f ws) g) where
    -- no more leave than wait, and few are returns
    pub few_leave : (g.count ≤ length (waiting_of p)) × (p.returns + g.returns < 2 ^ 63)
    few_leave =
        let n = leading_length stamp f ws in
        let m = many-length is_return (leading stamp f ws) in
        let e = ap length w in
        let k = length_taken in
        (omega (arith, v.count), omega (arith, v.returns, z.returns, z.waits))

    -- what is settled has left and is counted
    pub tallied_as : f ≡ floor p
        → {left_over : List Message} → left_over ≡ drop g.count (waiting_of p) ++ replicate g.count blank
        → {order : ℕ} → order ≡ cond (eqb p.phase 1) (unwrap_or g.order 0) p.order
        → made (start_of p) p.clock p.last (p.waits - g.count) (left_over ++ drop p.waits p.slots) g.takes (p.returns + g.returns) p.phase order ≡ tallied p
    unfolding tallied order_after
    tallied_as pf {left_over} ps {order} po =
        let out : leading stamp f ws ≡ gone p = ap₂ (λ (x : ℕ) (y : List Message). leading stamp x y) pf w in
        let k : g.count ≡ length (gone p) = v.count ∙ ap length out in
        let few = few_leave in
        let less : p.waits - g.count ≡ length (left p) = (let a = length-drop (length (gone p)) (waiting_of p) in let b = length_taken in omega arith) in
        let slots : left_over ++ drop p.waits p.slots ≡ in_slots (left p) =
        ap (λ (x : List Message). x ++ drop p.waits p.slots) ps
        ∙ left_slots p.slots g.count p.waits (let b = length_taken in omega arith) z.waits l z.blanks
        ∙ ap (λ (x : ℕ). in_slots (drop x (waiting_of p))) k in
        let o : order ≡ cond (eqb p.phase 1) (own_number p.own p.takes (gone p)) p.order =
        po ∙ ap (λ (x : ℕ). cond (eqb p.phase 1) x p.order) (v.order ∙ ap (own_number p.own p.takes) out) in
        λ i. made (start_of p) p.clock p.last (less i) (slots i)
        ((v.takes ∙ ap (λ (x : List Message). p.takes + many is_take x) out) i)
        ((ap (λ (x : ℕ). p.returns + x) (v.returns ∙ ap (many is_return) out)) i) p.phase (o i)

-- and the phase has changed with it
pub settled_as : (p : Post) {t : Post} → t ≡ tallied p → {can : Bool} → can ≡ free t → {phase : ℕ} → phase ≡ phase_after t.phase t.order can → in_phase t phase ≡ settle p
unfolding settle
settled_as p {t} e c f = ap (in_phase t) (f ∙ ap (phase_after t.phase t.order) c) ∙ ap (λ (t : Post). in_phase t (phase_after t.phase t.order (free t))) e
