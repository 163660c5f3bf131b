-- A post's granted takes are as many as its returns, and one more while it holds. So never more posts hold than there are places.
-- Assumes nothing.
use mathlib.Core.Path.{◌≡◌, refl, sym, ap}
use mathlib.Core.Bool.{Bool, true, false, not, cond, ◌&&◌}
use mathlib.Core.List.{[], ◌∷◌}
use Prim.Native.Nat.{ℕ, ◌+◌, ◌≤◌, ◌<◌}
use native.Mathlib.Omega.{arith}
use lib.Dec.{T, not_T, eqb→eq, eqb_refl}
use lib.ListN.{length, length-append}
use mir.Facts.{yes_and}
use Rattle.laws.specs.Below.{one?}
use Rattle.laws.specs.Lists.{keep, many, final, put}
use Rattle.laws.proofs.Tests.{and_l, and_r}
use Rattle.laws.proofs.BelowLaws.{sum_to_cong, sum_to-add}
use Rattle.laws.proofs.ListLaws.{in_cast, keep-keep}
use Rattle.frame.specs.Message.{ack_kind, is_return, stamp, by, own_return}
use Rattle.frame.specs.Frame.{fields_of}
use Rattle.calls.specs.declared.Own.TheVariants.{Taking, Returning}
use Rattle.calls.specs.declared.Start.{Start}
use Rattle.queue.specs.Queue.{Queue, settled, grants, latest, phase}
use Rattle.calls.specs.Replies.{Call, receive_call}
use Rattle.queue.specs.Calls.{saying, grant_came}
use Rattle.queue.specs.Feeder.{Line, start, Feeder, sent, returns_sent, granted, holding}
use Rattle.queue.proofs.Good.{Fit, Good, good_empty}
use Rattle.queue.proofs.Changes.{Change, unchanged, spoke, accepted, good_change}
use Rattle.queue.proofs.Parts.{keep-say_no, keep-say-last, keep-accept_no}
use Rattle.queue.proofs.Grow.{later}
use Rattle.queue.proofs.Granted.{take_cast, grants_in, grants_grow, holding-latest, latest-holding, latest-said, latest_accepted}
use Rattle.queue.proofs.Marks.{Paid, holds, mark_list, step, paid_step, grants_step}

-- the returns of the post itself
abbrev pub Balanced : Start → Queue → Type 0
Balanced st q = length (grants st q) ≡ many (own_return st.own) q + one? (holds st q)

one_more : (a b : Bool) → (T a → T b) → one? b ≡ one? a + one? (not a && b)
one_more true true h = refl
one_more true false h = absurd (h tt)
one_more false true h = refl
one_more false false h = refl

one_back : (a b : Bool) → T a → (T b → ⊥) → 1 + one? b ≡ one? a + one? (not a && b)
one_back true true t h = absurd (h tt)
one_back true false t h = refl
one_back false b t h = absurd t

-- returns and holding grow by the mark of the call
abbrev Turned : Start → Queue → Queue → Type 0
Turned st q q' = many (own_return st.own) q' + one? (holds st q') ≡ many (own_return st.own) q + one? (holds st q) + one? (grant_came st q q')

no_return : (st : Start) (q q' : Queue) → keep (own_return st.own) q' ≡ keep (own_return st.own) q → (T (holds st q) → T (holds st q')) → Turned st q q'
unfolding grant_came
no_return st q q' e h = let a = ap length e in let b = one_more (holds st q) (holds st q') h in omega arith

turned : (st : Start) (c : Call) (q q' : Queue) → Good st q → Change st q c q' → Turned st q q'
unfolding saying grant_came
turned st c q q' g unchanged = no_return st q q refl (λ z. z)
turned st c q q' g (spoke {o = Taking} z l) =
    let t = saying st 1 q in
    no_return st q q' (keep-say_no st q (own_return st.own) 1 (not_T (own_return st.own t) (and_r (by st.own t) (is_return t))))
    (λ y. absurd (let a = eqb→eq (phase st q) 0 z in let b = eqb→eq (phase st q) 3 y in omega arith))
turned st c q q' g (spoke {o = Returning} z l) =
    let t = saying st 2 q in
    let k = ap length (keep-say-last st q (own_return st.own) g.sorted 2 (yes_and (by st.own t) (is_return t) (eqb_refl st.own) tt)) in
    let a = length-append (keep (own_return st.own) q) (t ∷ []) in
    let e = latest-said st q g.sorted 2 tt in
    let b = one_back (holds st q) (holds st q') z (λ y. take_cast e (grants_in st q' (latest st q') (holding-latest st q' y)).take) in
    omega arith
turned st c q q' g (accepted {s = s} {lent = lent} w) =
    let m = (fields_of s).message in
    let a = saying st ack_kind (put stamp m q) in
    let l = later st q g.sorted (receive_call s lent) q' (accepted w) in
    no_return st q q'
    (keep-accept_no st q (own_return st.own) m
    (not_T (own_return st.own m) (λ y. w.other (eqb→eq m.sender st.own (and_l (by st.own m) _ y))))
    (not_T (own_return st.own a) (and_r (by st.own a) (is_return a))))
    (λ y.
    latest-holding st q' (in_cast (grants st q') (sym (latest_accepted st q m w.other))
    (grants_grow st q q' l (latest st q) (holding-latest st q y))))

pub marks_one : (st : Start) (q q' : Queue) → length (mark_list st q q') ≡ one? (grant_came st q q')
marks_one st q q' = go (grant_came st q q')
  where
    go : (b : Bool) → length (cond b (latest st q' ∷ []) []) ≡ one? b
    go true = refl
    go false = refl

-- ---- all that a queue which calls made has

pub record Kept (st : Start) (q : Queue) : Type 0 where
  pub good : Good st q
  pub paid : Paid st q
  pub balanced : Balanced st q

pub kept_change : (st : Start) (c : Call) (q q' : Queue) → Change st q c q' → Kept st q → Kept st q'
kept_change st c q q' d k =
    let g = k.good in
    let l = later st q g.sorted c q' d in
    let s = step st q g c q' d k.paid in
    let a = ap length (grants_step st q q' l s) in
    let b = length-append (grants st q) (mark_list st q q') in
    let m = marks_one st q q' in
    let t = turned st c q q' g d in
    let o = k.balanced in
    record { good = good_change st c q q' d g; paid = paid_step st q q' l s; balanced = omega arith }

pub kept-empty : (st : Start) → Fit st → Kept st []
unfolding grants settled keep phase latest final
kept-empty st fit = record { good = good_empty st fit; paid = λ m i. absurd i; balanced = refl }

-- over all posts
module _ (L : Line) (s : Feeder) (h : (p : ℕ) → p < L.posts → Balanced (start L p) (s p)) where
  balanced_at : (p : ℕ) → p < L.posts → length (grants (start L p) (s p)) ≡ many is_return (sent s p) + one? (holds (start L p) (s p))
  balanced_at p l = let e = ap length (keep-keep is_return (by p) (s p)) in let b = h p l in omega arith

  pub never_more_hold : granted L s ≤ L.places + returns_sent L s → holding L s ≤ L.places
  unfolding granted returns_sent holding
  never_more_hold le =
      let a = sum_to_cong L.posts _ _ balanced_at in
      let b = sum_to-add L.posts (λ p. many is_return (sent s p)) (λ p. one? (holds (start L p) (s p))) in
      omega arith
