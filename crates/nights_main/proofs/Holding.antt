-- An input fed at once to a new bench that is then finished: what is written is the output of the input. Assumes nothing.
use mathlib.Core.Path.{◌≡◌, refl, ap, ◌∙◌, sym, subst}
use mathlib.Core.Logic.{◌⊎◌, inl, inr}
use mathlib.Core.Bool.{Bool, true, false, cond, ◌||◌}
use mathlib.Core.List.{List, [], ◌∷◌, ◌++◌, append-nil}
use Prim.Native.Nat.{ℕ, ◌+◌, ◌-◌, ◌≤◌}
use native.Mathlib.Omega.{arith}
use lib.Dec.{ltb}
use lib.ListN.{length, take, drop, drop_of_length-le}
use lib.Seq.{sets}
use Rattle.std.proofs.Common.{Option, Some}
use Rattle.std.specs.Option.{unwrap_or}
use Rattle.bench.specs.declared.Bench.{Bench}
use Rattle.bench.specs.declared.Fed.{Fed}
use Rattle.bench.specs.Bench.{is_over, unfed, stepped, stopped, Feeding, feeding, Feeds, finished, finished_bytes, Ends}
use Rattle.bench.specs.Session.{fed, ended}
use Rattle.bench.specs.Output.{output}
use Rattle.bench.proofs.Fits.{fed_fits}
use Rattle.bench.proofs.WholeNights.{whole_night}

-- feeding says that it is over where its bench is
over_told : (b : Bench) (part : List ℕ) (used at : ℕ) (out : List ℕ) → (feeding b part used at out).fed.over ≡ is_over (feeding b part used at out).bench
unfolding feeding
over_told b [] used at out = refl
over_told b (x ∷ xs) used at out =
    go (is_over b || ltb (length out - at) 64)
    (over_told (stepped b x).bench xs (used + 1) (at + length (stepped b x).text) (sets out at (stepped b x).text))
  where
    more : Feeding
    more = feeding (stepped b x).bench xs (used + 1) (at + length (stepped b x).text) (sets out at (stepped b x).text)

    halts : Bool → Feeding
    halts t = cond t (stopped b used at out) more

    go : (t : Bool) → more.fed.over ≡ is_over more.bench → (halts t).fed.over ≡ is_over (halts t).bench
    go true r = refl
    go false r = r

pub feed_short : (b : Bench) (input out : List ℕ) (b' : Bench) (f : Fed) (after : List ℕ) → Feeds (feeding b input 0 0 out) b' f after → f.written ≤ length after
feed_short b input out b' f after p =
    let h = fed_fits b input out b' f after p in
    let w = h.1 in
    let l = h.2 in
    omega arith

module _ (input out end : List ℕ) (room : 64 ≤ length out) (more : 64 ≤ length end) where
  abbrev all : Feeding
  all = feeding unfed input 0 0 out

  -- nothing is left, or it is over
  enough : (all.fed.over ≡ true) ⊎ (length input ≤ all.fed.used) → (drop all.fed.used input ++ [] ≡ []) ⊎ (is_over all.bench ≡ true)
  enough (inl o) = inr (sym (over_told unfed input 0 0 out) ∙ o)
  enough (inr u) = inl (ap (λ (l : List ℕ). l ++ []) (drop_of_length-le input u))

  at_once : (all.fed.over ≡ true) ⊎ (length input ≤ all.fed.used)
      → take all.fed.written all.bytes ++ take (unwrap_or (finished all.bench end) 0) (finished_bytes all.bench end) ≡ output input
  at_once e =
      whole_night (input ++ []) _
      (fed unfed input [] out _ room (ended all.bench (drop all.fed.used input ++ []) end more (enough e)))
      ∙ ap output (append-nil input)

  -- the same of what feed and finish hand back
  pub held : (b b' : Bench) (f : Fed) (after : List ℕ) (r : Option ℕ) (n : ℕ) (rest : List ℕ) → b ≡ unfed
      → Feeds (feeding b input 0 0 out) b' f after → Ends (finished b' end) (finished_bytes b' end) r rest → r ≡ Some n
      → (f.over ≡ true) ⊎ (length input ≤ f.used) → take f.written after ++ take n rest ≡ output input
  held b b' f after r n rest e p q z d =
      let g : f ≡ all.fed = p.gives ∙ (λ i. (feeding (e i) input 0 0 out).fed) in
      let l : after ≡ all.bytes = p.leaves ∙ (λ i. (feeding (e i) input 0 0 out).bytes) in
      let h : b' ≡ all.bench = p.bench ∙ (λ i. (feeding (e i) input 0 0 out).bench) in
      (λ i. take (g i).written (l i) ++ take (unwrap_or ((sym z ∙ q.gives) i) 0) (q.leaves i))
      ∙ (λ i. take all.fed.written all.bytes ++ take (unwrap_or (finished (h i) end) 0) (finished_bytes (h i) end))
      ∙ at_once (subst (λ (f : Fed). (f.over ≡ true) ⊎ (length input ≤ f.used)) g d)
