-- The set of missing posts, from what the code works out. Assumes nothing.
use mathlib.Core.Path.{◌≡◌, refl, ap, ◌∙◌, sym}
use mathlib.Core.Bool.{Bool, true, false, cond, not, ◌&&◌}
use mathlib.Core.List.{List, [], ◌∷◌}
use Rattle.std.specs.Prelude.{Option, unwrap_or, option_map, Some}
use Rattle.std.specs.List.{find}
use Prim.Native.Nat.{ℕ}
use borrow.Author.Tests.{eq-eqb, ne_eqb}
use lib.Count.{ones}
use lib.Dec.{eqb, ltb}
use lib.ListN.{get_or}
use Rattle.laws.specs.Below.{count_to, bits_to}
use Rattle.laws.proofs.Ladders.{on}
use Rattle.laws.proofs.BitLaws.{ones_bits, bits_cong, bits_none, count_none}
use Rattle.frame.specs.declared.Message.{Message}
use Rattle.frame.specs.Message.{stamp_of, stamp, own_take}
use Rattle.post.specs.declared.Post.{Post}
use Rattle.post.specs.Record.{waiting_of}
use Rattle.post.specs.Sound.{sound}
use Rattle.post.specs.Calls.{MissingTold, own_stamp, lacks, missed}

stamp_found : (own : ℕ) (ms : List Message) → unwrap_or (option_map stamp (find (own_take own) ms)) 0 ≡ own_stamp own ms
unfolding own_stamp
stamp_found own [] = refl
stamp_found own (m ∷ ms) = go (own_take own m) (stamp_found own ms)
  where
    go : (t : Bool) → unwrap_or (option_map stamp (find (own_take own) ms)) 0 ≡ own_stamp own ms
        → unwrap_or (option_map stamp (cond t (Some m) (find (own_take own) ms))) 0 ≡ cond t (stamp m) (own_stamp own ms)
    go true e = refl
    go false e = e

-- the stamp that the code finds among those that wait, or else 0
pub own_found : (own : ℕ) {ws ms : List Message} {o : Option ℕ} {t : ℕ} → ws ≡ ms → o ≡ option_map stamp (find (own_take own) ws) → t ≡ unwrap_or o 0 → t ≡ own_stamp own ms
own_found own {ws} e f g = g ∙ ap (λ (o : Option ℕ). unwrap_or o 0) f ∙ stamp_found own ws ∙ ap (own_stamp own) e

abbrev none : MissingTold
none = record { number = 0; set = 0; count = 0 }

-- outside phase 1 none is missing
pub none_missed : (p : Post) → sound p ≡ true → (p.phase ≡ 1 → ⊥) → none ≡ missed p
unfolding missed lacks
none_missed p y d =
    let no : (q : ℕ) → lacks p q ≡ false = λ q. rw (ne_eqb p.phase 1 d) in
    on _ _ _ y (λ i. record { number = 0; set = sym (bits_none p.posts (lacks p) (λ q l. no q)) i; count = sym (count_none p.posts (lacks p) (λ q l. no q)) i })

-- in phase 1 the count of ones is the number of those that lack
pub some_missed : (p : Post) → sound p ≡ true → p.phase ≡ 1 → (t set : ℕ) → t ≡ own_stamp p.own (waiting_of p)
    → set ≡ bits_to p.posts (λ q. not (eqb q p.own) && ltb (stamp_of (get_or p.last q 0) q) t) → record { number = 0; set = set; count = ones set } ≡ missed p
unfolding missed lacks
some_missed p y e t set et es =
    let f : set ≡ bits_to p.posts (lacks p) =
    es
    ∙ bits_cong p.posts _ (lacks p) (λ q l. sym (ap (λ (b : Bool). b && (not (eqb q p.own) && ltb (stamp_of (get_or p.last q 0) q) (own_stamp p.own (waiting_of p)))) (eq-eqb p.phase 1 e)
    ∙ ap (λ (x : ℕ). not (eqb q p.own) && ltb (stamp_of (get_or p.last q 0) q) x) (sym et))) in
    let o : ones set ≡ count_to p.posts (lacks p) = ap ones f ∙ ones_bits (lacks p) p.posts in
    on _ _ _ y (λ i. record { number = 0; set = f i; count = o i })
