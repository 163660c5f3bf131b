-- The own take among waiting messages: its number, its stamp, and that it is the last of its sender. Assumes nothing.
use mathlib.Core.Path.{◌≡◌, refl, sym, ap, ◌∙◌, subst}
use mathlib.Core.Logic.{inl, inr, ⊎_elim}
use mathlib.Core.Bool.{Bool, not, cond, ◌&&◌}
use mathlib.Core.List.{List, [], ◌∷◌}
use Prim.Native.Nat.{ℕ, ◌+◌, ◌≤◌}
use native.Mathlib.Omega.{arith}
use lib.Dec.{T, leb, T_not, not_T, le→leb}
use lib.Ieee.Bits.{is_true, is_false}
use mir.Facts.{yes_and}
use Rattle.laws.specs.Lists.{In, keep, Rising, upto}
use Rattle.laws.proofs.Tests.{test, and_l, and_r}
use Rattle.laws.proofs.BelowLaws.{one_yes}
use Rattle.laws.proofs.ListLaws.{keep_in, keep_yes, keep_no}
use Rattle.laws.proofs.Counting.{upto_cons, upto_none}
use Rattle.frame.specs.declared.Message.{Message}
use Rattle.frame.specs.Message.{is_take, stamp, by}
use Rattle.post.specs.Sound.{end_kind}
use Rattle.post.specs.Settle.{own_number}
use Rattle.post.specs.Calls.{own_stamp}

abbrev mine : ℕ → Message → Bool
mine own m = by own m && is_take m

-- t is the only own take of a list
pub record Only (own : ℕ) (t : Message) (l : List Message) : Type 0 where
  pub here : In t l
  pub own_take_lem : T (by own t && is_take t)
  pub alone : (a : Message) → In a l → T (by own a && is_take a) → a ≡ t

-- it is not the first, or it is
later : {own : ℕ} {t x : Message} {xs : List Message} → Only own t (x ∷ xs) → T (not (mine own x)) → Only own t xs
later {own} {t} {x} o n = record {
  here = ⊎_elim (λ e. absurd (T_not (mine own x) n (subst (λ (z : Message). T (mine own z)) e o.own_take_lem))) (λ j. j) o.here;
  own_take_lem = o.own_take_lem;
  alone = λ a i. o.alone a (inr i);
}

pub stamp_of_own : (own : ℕ) (l : List Message) (t : Message) → Only own t l → own_stamp own l ≡ stamp t
unfolding own_stamp
stamp_of_own own [] t o = absurd o.here
stamp_of_own own (x ∷ xs) t o =
    test (mine own x)
    (λ y. rw (is_true (mine own x) y) (ap stamp (o.alone x (inl refl) y)))
    (λ n. rw (is_false (mine own x) n) (stamp_of_own own xs t (later o n)))

-- ---- its number

pub number_of_own : (own n : ℕ) (l : List Message) (t : Message) → Rising stamp l → Only own t l
    → own_number own n l ≡ n + upto stamp (keep is_take l) t
unfolding own_number
number_of_own own n [] t r o = absurd o.here
number_of_own own n (x ∷ xs) t r o =
    test (is_take x)
    (λ y.
    let e = ap (λ (l : List Message). upto stamp l t) (keep_yes is_take x xs y) in
    let c = upto_cons stamp x (keep is_take xs) t in
    test (by own x)
    (λ z.
    let d = ap stamp (o.alone x (inl refl) (yes_and (by own x) (is_take x) z y)) in
    let one = one_yes (leb (stamp x) (stamp t)) (le→leb (stamp x) (stamp t) (omega arith)) in
    let none = upto_none stamp (keep is_take xs) t (λ b j. let w = r.0 b (keep_in is_take b xs j).0 in omega arith) in
    rw (is_true (is_take x) y, is_true (by own x) z) (omega arith))
    (λ z.
    let p = later o (not_T (mine own x) (λ w. T_not (by own x) z (and_l (by own x) (is_take x) w))) in
    let d = r.0 t p.here in
    let one = one_yes (leb (stamp x) (stamp t)) (le→leb (stamp x) (stamp t) (omega arith)) in
    let rest = number_of_own own (n + 1) xs t r.1 p in
    rw (is_true (is_take x) y, is_false (by own x) z) (omega arith)))
    (λ y.
    let p = later o (not_T (mine own x) (λ w. T_not (is_take x) y (and_r (by own x) (is_take x) w))) in
    let e = ap (λ (l : List Message). upto stamp l t) (keep_no is_take x xs y) in
    let rest = number_of_own own n xs t r.1 p in
    rw (is_false (is_take x) y) (omega arith))

-- ---- the last of a sender

no_end : (own k : ℕ) (l : List Message) → ((a : Message) → In a l → T (by own a) → ⊥) → end_kind own k l ≡ k
unfolding end_kind
no_end own k [] h = refl
no_end own k (x ∷ xs) h = rw (is_false (by own x) (not_T (by own x) (h x (inl refl)))) (no_end own k xs (λ a i. h a (inr i)))

-- the message above which there is none of its sender
pub end_of_own : (own k : ℕ) (l : List Message) (t : Message) → Rising stamp l → In t l → T (by own t)
    → ((a : Message) → In a l → T (by own a) → stamp a ≤ stamp t) → end_kind own k l ≡ t.kind
unfolding end_kind
end_of_own own k [] t r i o h = absurd i
end_of_own own k (x ∷ xs) t r (inl e) o h =
    let y : T (by own x) = subst (λ (z : Message). T (by own z)) e o in
    rw (is_true (by own x) y)
    (no_end own x.kind xs (λ a i z. let p = h a (inr i) z in let s = r.0 a i in let c = ap stamp e in omega arith)
    ∙ ap (λ (z : Message). z.kind) (sym e))
end_of_own own k (x ∷ xs) t r (inr i) o h = end_of_own own (cond (by own x) x.kind k) xs t r.1 i o (λ a j. h a (inr j))
