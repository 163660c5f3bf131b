-- Every call hands a sound record back sound, whatever record, frame and buffer it is given. Assumes nothing.
use mathlib.Core.Path.{◌≡◌, refl, ap, ◌∙◌}
use mathlib.Core.Bool.{Bool, true, false, not, cond, ◌&&◌}
use mathlib.Core.List.{List}
use Prim.Native.Nat.{ℕ, ◌+◌, ◌≤◌, max}
use native.Mathlib.Omega.{arith}
use borrow.Author.Tests.{eq-eqb}
use lib.Dec.{T, eqb→eq, eqb_refl, T_not, not_T}
use lib.ListN.{length, get_or, set}
use lib.Seq.{get_or-set_same, get_or-set_other}
use Rattle.laws.specs.Below.{one?}
use Rattle.laws.specs.Lists.{many, put}
use Rattle.laws.proofs.Tests.{cond_both, and_l}
use Rattle.laws.proofs.RefusalLaws.{unless_both}
use Rattle.laws.proofs.RisingLaws.{keep-put_no}
use Rattle.laws.proofs.CountLaws.{many-put}
use Rattle.frame.specs.declared.Message.{Message}
use Rattle.frame.specs.Message.{last_counter, stamp, is_take, is_return, counted, by, own_take, own_return}
use Rattle.frame.specs.Frame.{fields_of}
use Rattle.calls.specs.declared.Own.{Own}
use Rattle.calls.specs.declared.Own.TheVariants.{Taking, Returning}
use Rattle.calls.specs.Own.{row_of}
use Rattle.calls.specs.View.{acks}
use Rattle.calls.proofs.Passing.{own_counted_lem, Speaks, Comes}
use Rattle.post.specs.declared.Post.{Post}
use Rattle.post.specs.Record.{waiting_of, remade}
use Rattle.post.specs.Sound.{end_kind}
use Rattle.post.specs.Settle.{free, settle}
use Rattle.post.specs.Calls.{view_of, own_rows, receive_rows, saying, spoken, clock_with, last_with, came, Outcome, stays, heard_from, spoke, received}
use Rattle.post.proofs.Fields.Shape.{Kept}
use Rattle.post.proofs.Sound.Facts.{Sound, sound_has}
use Rattle.post.proofs.Fields.Above.{waiting_below}
use Rattle.post.proofs.Works.Passed.{speaks, accepted}
use Rattle.post.proofs.Own.Standing.{idle, asked, numbered, Stands, standing, held}
use Rattle.post.proofs.Own.Messages.{end_kind-put_other, end_kind-put-last}
use Rattle.post.proofs.Kept.Raised.{Raised, raised_none, raised_more}
use Rattle.post.proofs.Kept.Remade.{kept_same, kept_put}

module _ (p : Post) (k : Kept p) (s : Sound p) where
  -- an own message, which leads to a phase other than 3
  module _ (o : Own) (n : ℕ) (h : Speaks o (view_of p) n) where
    abbrev said : Message
    said = saying p (row_of o).kind

    said-kept : Stands p.own (row_of o).to 0 p.takes (put stamp said (waiting_of p)) → ((row_of o).to ≡ 3 → ⊥) → Kept (settle (spoken o p))
    unfolding spoken
    said-kept stands three =
        let l = h.clock in
        let b = s.clock p.own (omega arith) in
        let e = get_or-set_same p.last p.own (p.clock + 1) 0 (omega arith) in
        kept_put p k s (p.clock + 1) 1 (set p.last p.own (p.clock + 1))
        (raised_more p s p.last p.clock 0 p.own (p.clock + 1) (p.clock + 1) (raised_none p s k.shape) s.range.own_low (omega arith) (omega arith) (omega arith))
        (omega arith) (row_of o).to 0 said (omega arith)
        (record { sender = s.range.own_low; kind = own_counted_lem o p.own (p.clock + 1); low = omega arith; high = omega arith })
        (omega arith) (λ d. absurd (d refl)) stands (λ e. absurd (three e))

    said_end : end_kind p.own 0 (put stamp said (waiting_of p)) ≡ (row_of o).kind
    said_end = end_kind-put-last p.own 0 said (waiting_of p) (eqb_refl p.own) (waiting_below p s)

  spoken-kept : (o : Own) (n : ℕ) → Speaks o (view_of p) n → Kept (settle (spoken o p))
  spoken-kept Taking n h = said-kept Taking n h (go (standing p s)) (λ e. omega arith)
    where
      go : Stands p.own p.phase p.order p.takes (waiting_of p) → Stands p.own 1 0 p.takes (put stamp (said Taking n h) (waiting_of p))
      go (idle e o a b) =
          let m = said Taking n h in
          let x = many-put (own_take p.own) stamp m (waiting_of p) in
          let x1 : one? (own_take p.own m) ≡ 1 = rw (eq-eqb p.own p.own refl) in
          let y = many-put (own_return p.own) stamp m (waiting_of p) in
          let y1 : one? (own_return p.own m) ≡ 0 = rw (eq-eqb p.own p.own refl) in
          asked refl refl (omega arith) (omega arith) (said_end Taking n h)
      go (asked e o a b c) = absurd (let f = h.phase in omega arith)
      go (numbered l u lo hi a b) = absurd (let f = h.phase in omega arith)
  spoken-kept Returning n h = said-kept Returning n h (go (standing p s)) (λ e. omega arith)
    where
      go : Stands p.own p.phase p.order p.takes (waiting_of p) → Stands p.own 0 0 p.takes (put stamp (said Returning n h) (waiting_of p))
      go (numbered l u lo hi a b) =
          let m = said Returning n h in
          let x = many-put (own_take p.own) stamp m (waiting_of p) in
          let x1 : one? (own_take p.own m) ≡ 0 = rw (eq-eqb p.own p.own refl) in
          let y = many-put (own_return p.own) stamp m (waiting_of p) in
          let y1 : one? (own_return p.own m) ≡ 1 = rw (eq-eqb p.own p.own refl) in
          idle refl refl (omega arith) (omega arith)
      go (idle e o a b) = absurd (let f = h.phase in omega arith)
      go (asked e o a b c) = absurd (let f = h.phase in omega arith)

  -- a message of another post, acknowledged or not, among the waiting or not
  module _ (m : Message) (n : ℕ) (a : Comes (view_of p) n m) (fits : m.counter ≤ last_counter) where
    abbrev larger : ℕ
    larger = max p.clock m.counter

    abbrev heard : List ℕ
    heard = set p.last m.sender m.counter

    heard_up : Raised p heard larger 1
    heard_up = raised_more p s p.last p.clock 0 m.sender m.counter larger (raised_none p s k.shape) a.sender a.new (omega arith) (omega arith)

    came_up : Raised p (last_with p m) (clock_with p m) 1
    came_up = go (acks (view_of p) m)
      where
        go : (b : Bool) → let c = cond b (larger + 1) larger in Raised p (cond b (set heard p.own c) heard) c 1
        go true =
            let old = heard_up.clock p.own (omega arith) in
            let r = raised_more p s heard larger 1 p.own (larger + 1) (larger + 1) heard_up s.range.own_low (omega arith) (omega arith) (omega arith) in
            record { long = r.long; up = r.up; clock = r.clock; absent = r.absent; sum = let x = r.sum in omega arith }
        go false = heard_up

    came_width : clock_with p m ≤ last_counter
    came_width =
        cond_both (λ c. c ≤ last_counter) (acks (view_of p) m) (larger + 1) larger
        (λ y. let v = a.clock y in let w = a.counter y in omega arith)
        (λ z. let w = k.width in omega arith)

    -- the sender's last is the message's
    sender_last : get_or (last_with p m) m.sender 0 ≡ m.counter
    sender_last =
        cond_both (λ (ls : List ℕ). get_or ls m.sender 0 ≡ m.counter) (acks (view_of p) m) (set heard p.own (clock_with p m)) heard
        (λ y. get_or-set_other heard p.own m.sender (clock_with p m) 0 a.other ∙ there)
        (λ z. there)
      where
        there : get_or heard m.sender 0 ≡ m.counter
        there = let l = a.sender in get_or-set_same p.last m.sender m.counter 0 (let h = s.range.posts_high in let w = k.shape.last in omega arith)

    away : T (not (by p.own m))
    away = not_T (by p.own m) (λ y. a.other (eqb→eq m.sender p.own y))

    skip : (f : Message → Bool) → many (λ x. by p.own x && f x) (put stamp m (waiting_of p)) ≡ many (λ x. by p.own x && f x) (waiting_of p)
    skip f = ap length (keep-put_no stamp (λ x. by p.own x && f x) m (waiting_of p) (not_T (by p.own m && f m) (λ y. T_not (by p.own m) away (and_l (by p.own m) (f m) y))))

    stands : Stands p.own p.phase p.order p.takes (put stamp m (waiting_of p))
    stands = rw (skip is_take, skip is_return, end_kind-put_other p.own 0 m (waiting_of p) away) (standing p s)

    came-kept : Kept (settle (came p m))
    unfolding came free remade
    came-kept =
        cond_both (λ (ms : List Message). Kept (settle (remade p (clock_with p m) (last_with p m) ms p.phase p.order))) (counted m) (put stamp m (waiting_of p)) (waiting_of p)
        (λ c.
        let e = sender_last in
        kept_put p k s (clock_with p m) 1 (last_with p m) came_up came_width p.phase p.order m (omega arith)
        (record { sender = a.sender; kind = c; low = let h = a.new in omega arith; high = omega arith })
        a.new (λ d. a.few c) stands (held p s))
        (λ x. kept_same p k s (clock_with p m) 1 (last_with p m) came_up came_width p.phase p.order (standing p s) (held p s))

-- the calls, refused or not
module _ (p : Post) (k : Kept p) where
  pub spoke-kept : (o : Own) (lent : List ℕ) → Kept (spoke o p lent).gives.post
  spoke-kept o lent =
      unless_both (λ (x : Outcome). Kept x.gives.post) (own_rows o p (length lent)) (stays p lent) _
      (λ z. spoken-kept p k (sound_has p k.sound) o (length lent) (speaks o p (length lent) z).1)
      (λ n z. k)

  pub received-kept : (t lent : List ℕ) → (fields_of t).message.counter ≤ last_counter → Kept (received p t lent).gives.post
  unfolding heard_from
  received-kept t lent fits =
      unless_both (λ (o : Outcome). Kept o.gives.post) (receive_rows p t (length lent)) (stays p lent) _
      (λ z. came-kept p k (sound_has p k.sound) (fields_of t).message (length lent) (accepted p t (length lent) z).1 fits)
      (λ n z. k)
