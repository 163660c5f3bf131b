-- Steps of the calls, from what the code's tests say. Assumes nothing.
use denote.Param.Members.{Mut}
use mathlib.Core.Path.{◌≡◌, refl, ap, ◌∙◌, sym, subst}
use mathlib.Core.Bool.{Bool, true, false, cond}
use mathlib.Core.List.{List, [], ◌∷◌, map}
use Prim.Native.Nat.{ℕ, zero, suc, ◌+◌, ◌≤◌, ◌<◌}
use native.Mathlib.Omega.{arith}
use borrow.Author.Tests.{eq-eqb, ne_eqb, le-leb, lt-leb}
use lib.Dec.{leb, eqb}
use lib.ListN.{length, get_or, drop, drop_of_length-le}
use Rattle.std.specs.Prelude.{Some, Result}
use Rattle.std.specs.List.{position_from, count_by}
use Rattle.std.proofs.lemmas.List.Sums.{sum_by-cons}
use Rattle.std.specs.Array.{IsFromFnResultFrom}
use Rattle.std.specs.Fn.{Called as CalledOf}
use Rattle.std.specs.Option.{option_map, unwrap_or}
use Rattle.laws.specs.Lists.{keep, many}
use Rattle.laws.specs.Search.{from}
use Rattle.laws.proofs.ListLaws.{many_cons}
use Rattle.laws.proofs.Ladders.{on, off}
use Rattle.laws.proofs.ScanLaws.{next_drop}
use Rattle.frame.specs.declared.Message.{Message}
use Rattle.frame.specs.Message.{blank, by}
use Rattle.frame.specs.Frame.{fields_of}
use Rattle.post.specs.declared.Answer.{Answer}
use Rattle.post.specs.declared.Post.{Post}
use Rattle.post.specs.Calls.{Outcome, Gives}
use Rattle.bench.specs.declared.Night.{Night}
use Rattle.frame.specs.declared.refusal.Refusal.{Refusal}
use Rattle.frame.specs.Refusal.{number_in}
use Rattle.bench.specs.declared.lines.Command.TheVariants.{Deliver}
use Rattle.bench.specs.Night.{Called, called, lent, receives, post_of, handed_back, seek, next_of, passed, refused, answered, offered, ran}
use Rattle.bench.specs.Inside.{heard, giving}

-- what is made by calls that each give h of their number, and leave the closure as it is
module _ {F B : Type 0} (g : Mut F (ℕ × Unit {0}) B) (h : ℕ → B) (f : F) (k : (x : ℕ) (y : B) (q : F) → CalledOf g f (x, tt) y q → (q ≡ f) × (y ≡ h x)) where
  pub made_from : (ys : List B) (i n : ℕ) → IsFromFnResultFrom g f ys i n → length ys ≡ i + n → drop i ys ≡ map h (from i n)
  unfolding from
  made_from ys i zero r l = drop_of_length-le ys (omega arith)
  made_from ys i (suc n) r l =
      let a = k i r.1 r.0 r.3 in
      let e = made_from ys (i + 1) n (subst (λ (x : F). IsFromFnResultFrom g x ys (i + 1) n) a.0 r.4) (omega arith) in
      next_drop ys i r.1 (omega arith) ∙ (λ j. (r.2.1 r.1 ∙ a.1) j ∷ e j) ∙ ap (λ (m : ℕ). h i ∷ map h (from m n)) (let z : i + 1 ≡ suc i = omega arith in z)

-- counted from i on, or from the start of what is left
pub seek_from : (p i j : ℕ) (l : List Message) → unwrap_or (option_map (λ k. i + k) (position_from (by p) j l)) 256 ≡ seek p (i + j) l
unfolding seek
seek_from p i j [] = refl
seek_from p i j (m ∷ ms) = go (by p m) (seek_from p i (j + 1) ms ∙ ap (λ (k : ℕ). seek p k ms) (let e : i + (j + 1) ≡ i + j + 1 = omega arith in e))
  where
    go : (t : Bool) → unwrap_or (option_map (λ k. i + k) (position_from (by p) (j + 1) ms)) 256 ≡ seek p (i + j + 1) ms
        → unwrap_or (option_map (λ k. i + k) (cond t (Some j) (position_from (by p) (j + 1) ms))) 256 ≡ cond t (i + j) (seek p (i + j + 1) ms)
    go true e = refl
    go false e = e

module _ (s s' : Night) (g : Result Bool Refusal) where
  -- what a call gave and left is what f makes of the record that stands there and of zero bytes
  pub called_on : (f : Post → List ℕ → Outcome) (p : ℕ) (post : Post) (buf after : List ℕ) (a : Answer) → post ≡ post_of s p → buf ≡ lent → Gives (f post buf) a after
      → giving s' g ≡ answered (handed_back s p (heard a after)) (heard a after)
      → giving s' g ≡ answered (handed_back s p (called (f (post_of s p) lent))) (called (f (post_of s p) lent))
  called_on f p post buf after a e d o h =
      let gives = o.gives ∙ (λ i. (f (e i) (d i)).gives) in
      let leaves = o.leaves ∙ (λ i. (f (e i) (d i)).leaves) in
      h ∙ (λ i. let c : Called = record { answer = gives i; message = (fields_of (leaves i)).message } in answered (handed_back s p c) c)

  module _ (p q i : ℕ) (h : giving s' g ≡ answered (handed_back s q (receives (post_of s q) (get_or s.sent i blank))) (receives (post_of s q) (get_or s.sent i blank))) where
    abbrev c : Called
    c = receives (post_of s q) (get_or s.sent i blank)

    pub accepted : number_in g ≡ 0 → giving (passed s' p q i) g ≡ offered s p q i
    unfolding offered
    accepted z =
        (λ j. record { night = passed (h j).night p q i; number = (h j).number; granted = (h j).granted })
        ∙ ap (λ (n : Night). answered n c) (on (eqb c.answer.number 0) _ _ (eq-eqb c.answer.number 0 ((λ j. (sym h j).number) ∙ z)) refl)

    pub stays_next : (number_in g ≡ 0 → ⊥) → giving s' g ≡ offered s p q i
    unfolding offered
    stays_next z =
        h ∙ ap (λ (n : Night). answered n c) (off (eqb c.answer.number 0) _ _ (ne_eqb c.answer.number 0 (λ e. z ((λ j. (h j).number) ∙ e))) refl)

module _ (s : Night) (p q i : ℕ) (e : i ≡ next_of s p q) where
  pub none_next : 256 ≤ i → refused s 15 ≡ ran s (Some (Deliver p q))
  unfolding ran
  none_next h = on (leb 256 (next_of s p q)) _ _ (ap (leb 256) (sym e) ∙ le-leb 256 i h) refl

  pub one_next : i < 256 → offered s p q i ≡ ran s (Some (Deliver p q))
  unfolding ran
  one_next h = off (leb 256 (next_of s p q)) _ _ (ap (leb 256) (sym e) ∙ lt-leb 256 i h) (ap (offered s p q) e)

-- those that pass, counted as an iterator counts
pub counted : {A : Type 0} (f : A → Bool) (l : List A) → count_by f l ≡ many f l
unfolding keep
counted f [] = refl
counted f (x ∷ xs) = sum_by-cons (λ a. cond (f a) 1 0) x xs ∙ ap (λ (k : ℕ). cond (f x) 1 0 + k) (counted f xs) ∙ sym (many_cons f x xs)
