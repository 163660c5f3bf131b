-- What feeding and finishing use and write fits what they are given. Assumes nothing.
use mathlib.Core.Path.{◌≡◌, refl, ap, ◌∙◌, sym, subst}
use mathlib.Core.Bool.{Bool, true, false, true≢false, cond, ◌||◌}
use mathlib.Core.List.{List, [], ◌∷◌}
use Prim.Native.Nat.{ℕ, ◌+◌, ◌-◌, ◌≤◌, ◌<◌}
use native.Mathlib.Omega.{arith}
use borrow.Author.Tests.{ltb-false}
use lib.Dec.{ltb}
use lib.ListN.{length}
use lib.Seq.{sets, length-sets}
use Rattle.std.proofs.Common.{Option, Some, None}
use Rattle.std.specs.Option.{IfSome}
use Rattle.bench.specs.declared.Bench.{Bench}
use Rattle.bench.specs.declared.Fed.{Fed}
use Rattle.bench.specs.Bench.{is_over, stepped, stopped, Feeding, feeding, Feeds, ending, finished, finished_bytes, Ends}
use Rattle.bench.proofs.Feeding.{roomy}
use Rattle.bench.proofs.Running.{stepped-few, ending-few, one_used}

-- no more than the input is used, and what is written stands in the buffer, which stays as long as it is
pub record Fitting (part out : List ℕ) (used : ℕ) (f : Feeding) : Type 0 where
  pub used_most : f.fed.used ≤ used + length part
  pub written_most : f.fed.written ≤ length out
  pub long : length f.bytes ≡ length out

pub feeding_fits : (b : Bench) (part : List ℕ) (used at : ℕ) (out : List ℕ) → at ≤ length out → Fitting part out used (feeding b part used at out)
unfolding feeding
feeding_fits b [] used at out h = record { used_most = omega arith; written_most = h; long = refl }
feeding_fits b (x ∷ xs) used at out h =
    go (is_over b || ltb (length out - at) 64) refl
    (λ k. feeding_fits (stepped b x).bench xs (used + 1) (at + length (stepped b x).text) (sets out at (stepped b x).text) (let l = length-sets out at (stepped b x).text in omega arith))
  where
    text : List ℕ
    text = (stepped b x).text

    more : Feeding
    more = feeding (stepped b x).bench xs (used + 1) (at + length text) (sets out at text)

    go : (t : Bool) → is_over b || ltb (length out - at) 64 ≡ t → (at + length text ≤ length out → Fitting xs (sets out at text) (used + 1) more)
        → Fitting (x ∷ xs) out used (cond t (stopped b used at out) more)
    go true e r = record { used_most = omega arith; written_most = h; long = refl }
    go false e r =
        let room = roomy b at out e in
        let few = stepped-few b x in
        let f = r (omega arith) in
        let l = length-sets out at text in
        let m = f.used_most in
        let w = f.written_most in
        record { used_most = omega arith; written_most = omega arith; long = f.long ∙ l }

pub finished_fits : (b : Bench) (out : List ℕ) → IfSome (finished b out) (λ n. n ≤ length out)
unfolding finished
finished_fits b out = go (ltb (length out) 64) refl
  where
    go : (t : Bool) → ltb (length out) 64 ≡ t → IfSome (cond t None (Some (length (ending b)))) (λ n. n ≤ length out)
    go true e = tt
    go false e = let h = ltb-false (length out) 64 e in let few = ending-few b in omega arith

-- with room, a byte is used as long as it goes on
over_stays : (b : Bench) (x : ℕ) (xs out : List ℕ) → is_over b ≡ true → (feeding b (x ∷ xs) 0 0 out).fed.over ≡ true
unfolding feeding
over_stays b x xs out e = rw e

goes : (b : Bench) (l out : List ℕ) → 64 ≤ length out → 0 < length l → (feeding b l 0 0 out).fed.over ≡ false → 0 < (feeding b l 0 0 out).fed.used
goes b [] out k h e = absurd (omega arith)
goes b (x ∷ xs) out k h e = go (is_over b) refl
  where
    go : (t : Bool) → is_over b ≡ t → 0 < (feeding b (x ∷ xs) 0 0 out).fed.used
    go true d = absurd (true≢false (sym (over_stays b x xs out d) ∙ e))
    go false d = let u = one_used b x xs out d k in omega arith

-- ---- the same of what feed and finish hand back

module _ (b : Bench) (part out : List ℕ) (b' : Bench) (r : Fed) (after : List ℕ) (p : Feeds (feeding b part 0 0 out) b' r after) where
  pub fed_fits : (r.used ≤ length part) × (r.written ≤ length out) × (length after ≡ length out)
  fed_fits =
      let f = feeding_fits b part 0 0 out (omega arith) in
      let u = f.used_most in
      let w = f.written_most in
      let e : r.used ≡ (feeding b part 0 0 out).fed.used = λ i. (p.gives i).used in
      let d : r.written ≡ (feeding b part 0 0 out).fed.written = λ i. (p.gives i).written in
      (omega arith, omega arith, ap length p.leaves ∙ f.long)

  pub fed_on : r.over ≡ false → 0 < length part → 64 ≤ length out → 0 < r.used
  fed_on o h k =
      let u = goes b part out k h ((λ i. (sym p.gives i).over) ∙ o) in
      let e : r.used ≡ (feeding b part 0 0 out).fed.used = λ i. (p.gives i).used in
      omega arith

pub ended_fits : (b : Bench) (out : List ℕ) (r : Option ℕ) (after : List ℕ) → Ends (finished b out) (finished_bytes b out) r after → (n : ℕ) → r ≡ Some n → n ≤ length after
unfolding finished_bytes
ended_fits b out r after p n e =
    let l = ap length p.leaves ∙ long (ltb (length out) 64) in
    let h = subst (λ (o : Option ℕ). IfSome o (λ n. n ≤ length out)) (sym p.gives ∙ e) (finished_fits b out) in
    omega (arith, h)
  where
    long : (t : Bool) → length (cond t out (sets out 0 (ending b))) ≡ length out
    long true = refl
    long false = length-sets out 0 (ending b)
