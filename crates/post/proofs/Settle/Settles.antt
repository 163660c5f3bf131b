-- A record that is sound but for the settling is sound once what is settled has left. Assumes nothing.
use mathlib.Core.Path.{◌≡◌, sym, ap, ◌∙◌, subst}
use mathlib.Core.Bool.{Bool, true, false}
use mathlib.Core.List.{List, [], ◌∷◌, ◌++◌}
use Prim.Native.Nat.{ℕ, ◌+◌, ◌-◌, ◌≤◌, ◌<◌}
use native.Mathlib.Omega.{arith}
use borrow.Author.Tests.{ne_eqb}
use lib.Dec.{T, leb→le, le→leb, eqb→eq}
use lib.ListN.{length, drop, replicate, length-append, length-replicate}
use lib.Seq.{take-append_seam, drop-append_seam}
use Rattle.laws.specs.Lists.{In, keep, many, Rising}
use Rattle.laws.specs.Below.{sum_to, one?}
use Rattle.laws.proofs.ListLaws.{many_cons}
use Rattle.laws.proofs.CountLaws.{length_none}
use Rattle.laws.proofs.LeadingLaws.{leading_join, many-leading, left_in, left-rises}
use Rattle.frame.specs.declared.Message.{Message}
use Rattle.frame.specs.Message.{blank, stamp, is_take, is_return, by}
use Rattle.post.specs.declared.Post.{Post}
use Rattle.post.specs.Record.{start_of, last_of, waiting_of, floor}
use Rattle.post.specs.Sound.{own_few}
use Rattle.post.specs.Settle.{gone, left, order_after, tallied, free, settle}
use Rattle.calls.proofs.Ranges.{Range}
use Rattle.post.proofs.Sound.Facts.{Fair, Sound}
use Rattle.post.proofs.Fields.Shape.{Shape, Width}
use Rattle.post.proofs.Fields.Floors.{heard-floor, floor-settle}
use Rattle.post.proofs.Own.Standing.{Stands, Placed, own_fits_lem, order_fits_lem, phase_fits_lem}
use Rattle.post.proofs.Settle.OwnStays.{placed_on, stands_on}

-- what waits need not be above the floor yet, nor be none where the post is alone
pub record Ready (p : Post) (ms : List Message) : Type 0 where
  pub range : Range (start_of p)
  pub long : length ms ≤ 62
  pub absent : (q : ℕ) → q < 16 → p.posts ≤ q → last_of p q ≡ 0
  pub clock : (q : ℕ) → q < 16 → last_of p q ≤ p.clock
  pub width : Width p
  pub fair : (m : Message) → In m ms → Fair p.posts p.last m
  pub rising : Rising stamp ms
  pub few : (q : ℕ) → q < p.posts → (q ≡ p.own → ⊥) → many (by q) ms ≤ 4
  pub stands : Stands p.own p.phase p.order p.takes ms
  pub held : p.phase ≡ 3 → T (free p)
  pub sum : p.takes + p.returns + length ms ≤ sum_to 16 (last_of p)

slots_blank : (ms : List Message) (n : ℕ) → drop (length ms) (ms ++ replicate n blank) ≡ replicate (length (drop (length ms) (ms ++ replicate n blank))) blank
slots_blank ms n = let e = drop-append_seam ms (replicate n blank) in rw (e, length-replicate n blank)

-- takes and returns are not more than all
kinds_most : (ms : List Message) → many is_take ms + many is_return ms ≤ length ms
unfolding keep
kinds_most [] = omega arith
kinds_most (m ∷ ms) =
    let r = kinds_most ms in
    let a = many_cons is_take m ms in
    let b = many_cons is_return m ms in
    let c = one (is_take m) (is_return m) (λ s t. let e = eqb→eq m.kind 1 s in let f = eqb→eq m.kind 2 t in omega arith) in
    omega arith
  where
    one : (x y : Bool) → (T x → T y → ⊥) → one? x + one? y ≤ 1
    one true true d = absurd (d tt tt)
    one true false d = omega arith
    one false true d = omega arith
    one false false d = omega arith

pub settle-waiting : (p : Post) → waiting_of (settle p) ≡ left p
unfolding settle tallied
settle-waiting p = take-append_seam (left p) (replicate (62 - length (left p)) blank)

module _ (p : Post) (d : Ready p (waiting_of p)) where
  next_stands : Stands p.own (settle p).phase (settle p).order (settle p).takes (left p)
  unfolding settle tallied order_after
  next_stands =
      stands_on p.own (gone p) (left p) p.phase p.order p.takes (free (tallied p))
      (subst (Stands p.own p.phase p.order p.takes) (sym (leading_join stamp (floor p) (waiting_of p))) d.stands)

  -- a place that was there is there once more is counted
  still_free : p.phase ≡ 3 → T (free (tallied p))
  unfolding tallied free order_after
  still_free e =
      let f = leb→le p.order (p.places + p.returns) (d.held e) in
      rw (ne_eqb p.phase 1 (λ d. omega arith)) (le→leb p.order (p.places + (p.returns + many is_return (gone p))) (omega arith))

  next_placed : Placed (settle p).phase (free (settle p))
  unfolding settle tallied free
  next_placed = placed_on p.phase (order_after p) (free (tallied p)) still_free

  lengths : length (gone p) + length (left p) ≡ length (waiting_of p)
  lengths = sym (length-append (gone p) (left p)) ∙ ap length (leading_join stamp (floor p) (waiting_of p))

  still_waits : (m : Message) → In m (waiting_of (settle p)) → In m (waiting_of p) × (floor p < stamp m)
  still_waits m i = left_in stamp (floor p) (waiting_of p) d.rising m (subst (In m) (settle-waiting p) i)

  -- alone, everything is settled
  none_alone_lem : p.posts ≡ 1 → length (left p) ≡ 0
  none_alone_lem e =
      length_none (left p) (λ m i.
      let k = left_in stamp (floor p) (waiting_of p) d.rising m i in
      let f = d.fair m k.0 in
      let c = d.clock m.sender (omega arith) in
      let h = (heard-floor p m (omega arith)).1 (λ q l n. absurd (n (omega arith))) in
      omega arith)

  pub settles : Sound (settle p)
  unfolding settle tallied own_few
  settles = record {
    range = d.range;
    phase = phase_fits_lem _ _ _ _ _ _ next_stands;
    waits = let a = lengths in omega arith;
    absent = d.absent;
    clock = d.clock;
    fair = λ m i. d.fair m (still_waits m i).0;
    rising = subst (Rising stamp) (sym (settle-waiting p)) (left-rises stamp (floor p) (waiting_of p) d.rising);
    above = λ m i. rw (floor-settle p) (still_waits m i).1;
    alone = none_alone_lem;
    blanks = slots_blank (left p) (62 - length (left p));
    few = λ q l n. let a = d.few q l n in let b = many-leading stamp (floor p) (waiting_of p) (by q) in let c = ap (many (by q)) (settle-waiting p) in omega arith;
    own_few_lem = rw (settle-waiting p) (own_fits_lem _ _ _ _ _ _ next_stands);
    sum = let a = kinds_most (gone p) in let b = lengths in omega arith;
    order = order_fits_lem _ _ _ _ _ _ _ next_stands next_placed;
  }

  pub settles_shape : length p.last ≡ 16 → Shape (settle p)
  unfolding settle tallied
  settles_shape e = record {
    last = e;
    slots = let a = lengths in let c = length-replicate (62 - length (left p)) blank in let f = length-append (left p) (replicate (62 - length (left p)) blank) in omega arith;
  }

  pub settles_width : Width (settle p)
  unfolding settle tallied
  settles_width = d.width
