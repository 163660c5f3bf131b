-- Loops: what one turn over a list, or over the numbers below n, does to a definition. Assumes nothing.
use mathlib.Core.Path.{◌≡◌, refl, ap, ap₂, ◌∙◌, sym, subst}
use mathlib.Core.Logic.{inl, inr}
use mathlib.Core.Bool.{Bool, true, false, cond, ◌&&◌}
use mathlib.Core.List.{List, [], ◌∷◌}
use Prim.Native.Nat.{ℕ, zero, suc, ◌+◌, ◌^◌, ◌≤◌, ◌<◌, min}
use native.Mathlib.Omega.{arith}
use native.Mathlib.Numerals.{add-one}
use native.Mathlib.Nat.{zero-add}
use Rattle.std.proofs.Math.Bool.{and_comm}
use lib.Dec.{T, eqb}
use lib.ListN.{length, get_or, take, drop}
use lib.Seq.{slice, slice_empty, drop-cons, length-take-le, get_or-take}
use Rattle.std.specs.List.{list_all, enumerate_from, sum}
use Rattle.std.proofs.lemmas.List.Folds.{list_all_more}
use Rattle.std.proofs.lemmas.List.FromFn.{get_or-enumerate_from, length-enumerate_from}
use Rattle.std.proofs.lemmas.List.Sums.{sum_by_more}
use Rattle.std.proofs.lemmas.List.{take_all}
use Rattle.laws.specs.Lists.{In, keep, many, all}
use Rattle.laws.specs.Below.{all_to, sum_to, bits_to, least_to}
use Rattle.laws.proofs.Tests.{and_l, and_r}

module _ {A : Type 0} where
  -- where a test passes of all, it passes of each
  pub all_at : (f : A → Bool) (l : List A) → T (all f l) → (a : A) → In a l → T (f a)
  unfolding all
  all_at f (x ∷ xs) t a (inl e) = rw e (and_l (f x) (all f xs) t)
  all_at f (x ∷ xs) t a (inr i) = all_at f xs (and_r (f x) (all f xs) t) a i
  all_at f [] t a i = absurd i

  -- of the first n there are at most m
  pub taken_few : (n m : ℕ) (l : List A) → n ≤ length l → n ≤ m → length (take n l) ≤ m
  taken_few n m l h k = let e = length-take-le n l h in omega arith

  -- from i on: one and those after it, as the code counts
  pub next_drop : (l : List A) (i : ℕ) (d : A) → i < length l → drop i l ≡ get_or l i d ∷ drop (i + 1) l
  next_drop l i d h = drop-cons l i d h ∙ ap (λ (j : ℕ). get_or l i d ∷ drop j l) (sym (add-one i))

  -- the same of the first n
  pub next : (l : List A) (i n : ℕ) (d : A) → i < n → n ≤ length l → slice i n l ≡ get_or l i d ∷ slice (i + 1) n l
  next l i n d h k = next_drop (take n l) i d (let e = length-take-le n l k in omega arith) ∙ ap (λ (a : A). a ∷ slice (i + 1) n l) (get_or-take n l i d h)

-- a scan over the first n of a list, by what it says of those that are left: one and those after it, and at the end none
module _ {A : Type 0} (says : List A → Type 0) (l : List A) (i n : ℕ) where
  pub one_left : (d : A) → i < n → n ≤ length l → says (slice i n l) → says (get_or l i d ∷ slice (i + 1) n l)
  one_left d h k = subst says (next l i n d h k)

  pub none_left : i ≤ n → n ≤ i → says (slice i n l) → says []
  none_left h k = subst says (ap (λ (j : ℕ). slice j n l) (let e : i ≡ n = omega arith in e) ∙ slice_empty n l)

-- a turn of a loop over the numbers below n, by what it holds after those below i: x before it, y after it
module _ {A : Type 0} (holds : ℕ → A) (step : ℕ → A → A) (more : (i : ℕ) → holds (suc i) ≡ step i (holds i)) where
  turn : (i : ℕ) {x y : A} → x ≡ holds i → y ≡ step i x → y ≡ holds (i + 1)
  turn i e d = d ∙ ap (step i) e ∙ sym (more i) ∙ sym (ap holds (add-one i))

pub all_to_turn : (f : ℕ → Bool) (i : ℕ) {x y : Bool} → x ≡ all_to i f → y ≡ (f i && x) → y ≡ all_to (i + 1) f
unfolding all_to
all_to_turn f = turn (λ n. all_to n f) (λ i x. f i && x) (λ i. refl)

pub sum_to_turn : (f : ℕ → ℕ) (i : ℕ) {x y : ℕ} → x ≡ sum_to i f → y ≡ f i + x → y ≡ sum_to (i + 1) f
unfolding sum_to
sum_to_turn f = turn (λ n. sum_to n f) (λ i x. f i + x) (λ i. refl)

pub bits_to_turn : (f : ℕ → Bool) (i : ℕ) (b : Bool) {x y : ℕ} → x ≡ bits_to i f → f i ≡ b → y ≡ cond b (2 ^ i) 0 + x → y ≡ bits_to (i + 1) f
unfolding sum_to
bits_to_turn f i b {x} e t d =
    turn (λ n. bits_to n f) (λ i x. cond (f i) (2 ^ i) 0 + x) (λ i. refl) i e (d ∙ ap (λ (c : Bool). cond c (2 ^ i) 0 + x) (sym t))

pub least_to_turn : (but d : ℕ) (f : ℕ → ℕ) (i : ℕ) {x y : ℕ} → x ≡ least_to i but d f → y ≡ cond (eqb i but) x (min (f i) x) → y ≡ least_to (i + 1) but d f
unfolding least_to
least_to_turn but d f = turn (λ n. least_to n but d f) (λ i x. cond (eqb i but) x (min (f i) x)) (λ i. refl)

pub many-length : {A : Type 0} (f : A → Bool) (l : List A) → many f l ≤ length l
unfolding keep
many-length f [] = omega arith
many-length f (x ∷ xs) = go (f x) (many-length f xs)
  where
    go : (b : Bool) → many f xs ≤ length xs → length (cond b (x ∷ keep f xs) (keep f xs)) ≤ suc (length xs)
    go true h = omega arith
    go false h = omega arith

-- two tests of each number are one test of each
pub all_to_both : (n : ℕ) (f g : ℕ → Bool) → all_to n (λ i. f i && g i) ≡ all_to n f && all_to n g
unfolding all_to
all_to_both zero f g = refl
all_to_both (suc n) f g = ap (λ (x : Bool). f n && g n && x) (all_to_both n f g) ∙ regroup (f n) (g n) (all_to n f) (all_to n g)
  where
    regroup : (a b c d : Bool) → (a && b) && (c && d) ≡ (a && c) && (b && d)
    regroup true true c d = refl
    regroup true false true d = refl
    regroup true false false d = refl
    regroup false b c d = refl

pub all_to_cong : (n : ℕ) (f g : ℕ → Bool) → ((i : ℕ) → i < n → f i ≡ g i) → all_to n f ≡ all_to n g
unfolding all_to
all_to_cong zero f g h = refl
all_to_cong (suc n) f g h = ap₂ ◌&&◌ (h n (omega arith)) (all_to_cong n f g (λ i l. h i (omega arith)))

-- a test, or a sum, of what stands at the numbers below n
all_to_list : {A : Type 0} (t : ℕ × A → Bool) (l : List A) (d : A) (n : ℕ) → n ≤ length l → all_to n (λ i. t (i, get_or l i d)) ≡ list_all t (take n (enumerate_from 0 l))
unfolding all_to
all_to_list t l d zero h = refl
all_to_list t l d (suc n) h =
    let e = enumerate_from 0 l in
    let more = list_all_more t e n (0, d) (rw length-enumerate_from (omega arith)) in
    let at = get_or-enumerate_from 0 l n (0, d) h ∙ ap (λ (k : ℕ). (k, get_or l n d)) (zero-add n) in
    and_comm (t (n, get_or l n d)) _
    ∙ ap₂ ◌&&◌ (all_to_list t l d n (omega arith)) (ap t (sym at))
    ∙ sym (rw add-one at more)

sum_to_list : (l : List ℕ) (n : ℕ) → n ≤ length l → sum_to n (λ i. get_or l i 0) ≡ sum (take n l)
unfolding sum_to
sum_to_list l zero h = refl
sum_to_list l (suc n) h = let a = sum_to_list l n (omega arith) in let b = rw add-one at (sum_by_more (λ x. x) l n 0 h) in omega arith

-- of a list of n, each with its number, and the sum of all
pub all_each : {A : Type 0} (t : ℕ × A → Bool) (l : List A) (d : A) (n : ℕ) → length l ≡ n → all_to n (λ i. t (i, get_or l i d)) ≡ list_all t (enumerate_from 0 l)
all_each t l d n e = all_to_list t l d n (omega arith) ∙ ap (list_all t) (take_all n (enumerate_from 0 l) (rw length-enumerate_from (omega arith)))

pub sum_each : (l : List ℕ) (n : ℕ) → length l ≡ n → sum_to n (λ i. get_or l i 0) ≡ sum l
sum_each l n e = sum_to_list l n (omega arith) ∙ ap sum (take_all n l (omega arith))
