-- One turn of the loop over the messages that leave. Assumes nothing.
use mathlib.Core.Path.{◌≡◌, refl, ap, ◌∙◌, sym}
use mathlib.Core.Bool.{Bool, true, false, cond}
use mathlib.Core.List.{List, [], ◌∷◌}
use Prim.Native.Nat.{ℕ, ◌+◌, ◌≤◌, ◌<◌, ◌^◌}
use native.Mathlib.Omega.{arith}
use borrow.Author.Tests.{lt-ltb, le-ltb, eq-eqb, ne_eqb}
use lib.ListN.{length}
use Rattle.std.specs.Prelude.{Option, None, Some, unwrap_or}
use Rattle.std.specs.Option.{option_or}
use Rattle.laws.specs.Lists.{keep, many, leading}
use Rattle.laws.specs.Below.{one?}
use Rattle.laws.proofs.ListLaws.{many_cons}
use Rattle.laws.proofs.ScanLaws.{many-length}
use Rattle.laws.proofs.LeadingLaws.{leading_length}
use Rattle.frame.specs.declared.Message.{Message}
use Rattle.frame.specs.Message.{is_take, is_return, stamp, by}
use Rattle.post.specs.declared.slots.Gone.{Gone}
use Rattle.post.specs.Settle.{own_number}
use Rattle.post.specs.Inside.{Left}

module _ (own before f : ℕ) (ms : List Message) where
  -- what has been counted, with the rest still to come
  pub record Leaves (rest : List Message) (g : Gone) : Type 0 where
    pub count : g.count + length (leading stamp f rest) ≡ length (leading stamp f ms)
    pub takes : g.takes + many is_take (leading stamp f rest) ≡ before + many is_take (leading stamp f ms)
    pub returns : g.returns + many is_return (leading stamp f rest) ≡ many is_return (leading stamp f ms)
    pub order : unwrap_or g.order (own_number own g.takes (leading stamp f rest)) ≡ own_number own before (leading stamp f ms)

  last-left : {g : Gone} (rest : List Message) → leading stamp f rest ≡ [] → Leaves rest g → Left own before (leading stamp f ms) g
  unfolding keep own_number
  last-left {g} rest e v = record {
    count = let a = v.count in let b = ap length e in omega arith;
    takes = let a = v.takes in let b = ap (many is_take) e in omega arith;
    returns = let a = v.returns in let b = ap (many is_return) e in omega arith;
    order = ap (λ (l : List Message). unwrap_or g.order (own_number own g.takes l)) (sym e) ∙ v.order;
  }

  pub ended : {g : Gone} → Leaves [] g → Left own before (leading stamp f ms) g
  unfolding leading
  ended v = last-left [] refl v

  module _ {m : Message} {rest : List Message} {g : Gone} (v : Leaves (m ∷ rest) g) where
    pub stopped : f < stamp m → Left own before (leading stamp f ms) g
    unfolding leading
    stopped h = last-left (m ∷ rest) (rw (lt-ltb f (stamp m) h)) v

    turned : stamp m ≤ f → {tk rt : ℕ} {o : Option ℕ} → tk ≡ g.takes + one? (is_take m) → rt ≡ g.returns + one? (is_return m)
        → o ≡ cond (is_take m) (cond (by own m) (option_or g.order (Some (g.takes + 1))) g.order) g.order
        → Leaves rest (record { count = g.count + 1; takes = tk; returns = rt; order = o })
    unfolding leading own_number
    turned h pt pr po =
        let R = leading stamp f rest in
        let e : leading stamp f (m ∷ rest) ≡ m ∷ R = rw (le-ltb f (stamp m) h) in
        record {
          count = let a = v.count in let b = ap length e in omega arith;
          takes = let a = v.takes in let b = ap (many is_take) e in let d = many_cons is_take m R in omega arith;
          returns = let a = v.returns in let b = ap (many is_return) e in let d = many_cons is_return m R in omega arith;
          order =
              (λ j. unwrap_or (po j) (own_number own (pt j) R))
              ∙ go g.order (is_take m) (by own m) R
              ∙ ap (λ (l : List Message). unwrap_or g.order (own_number own g.takes l)) (sym e)
              ∙ v.order;
        }
      where
        same : (R : List Message) → own_number own (g.takes + 0) R ≡ own_number own g.takes R
        same R = ap (λ (x : ℕ). own_number own x R) (let e : g.takes + 0 ≡ g.takes = omega arith in e)

        go : (o : Option ℕ) (t b : Bool) (R : List Message)
            → unwrap_or (cond t (cond b (option_or o (Some (g.takes + 1))) o) o) (own_number own (g.takes + one? t) R) ≡ unwrap_or o (cond t (cond b (g.takes + 1) (own_number own (g.takes + 1) R)) (own_number own g.takes R))
        go (Some k) true true R = refl
        go (Some k) true false R = refl
        go (Some k) false b R = refl
        go None true true R = refl
        go None true false R = refl
        go None false b R = same R

    module _ (h : stamp m ≤ f) where
      pub own_takes : m.kind ≡ 1 → m.sender ≡ own → {o : Option ℕ} → o ≡ option_or g.order (Some (g.takes + 1)) → Leaves rest (record { count = g.count + 1; takes = g.takes + 1; returns = g.returns; order = o })
      own_takes k s e = turned h (rw (eq-eqb m.kind 1 k)) (rw (ne_eqb m.kind 2 (λ e. omega arith)) (omega arith)) (rw (eq-eqb m.kind 1 k, eq-eqb m.sender own s) e)

      pub other_takes : m.kind ≡ 1 → (m.sender ≡ own → ⊥) → Leaves rest (record { count = g.count + 1; takes = g.takes + 1; returns = g.returns; order = g.order })
      other_takes k s = turned h (rw (eq-eqb m.kind 1 k)) (rw (ne_eqb m.kind 2 (λ e. omega arith)) (omega arith)) (rw (eq-eqb m.kind 1 k, ne_eqb m.sender own s))

      pub returns : m.kind ≡ 2 → Leaves rest (record { count = g.count + 1; takes = g.takes; returns = g.returns + 1; order = g.order })
      returns k = turned h (rw (ne_eqb m.kind 1 (λ e. omega arith)) (omega arith)) (rw (eq-eqb m.kind 2 k)) (rw (ne_eqb m.kind 1 (λ e. omega arith)))

      pub neither : (m.kind ≡ 1 → ⊥) → (m.kind ≡ 2 → ⊥) → Leaves rest (record { count = g.count + 1; takes = g.takes; returns = g.returns; order = g.order })
      neither j k = turned h (rw (ne_eqb m.kind 1 j) (omega arith)) (rw (ne_eqb m.kind 2 k) (omega arith)) (rw (ne_eqb m.kind 1 j))

  -- no count overruns
  pub small : {rest : List Message} {g : Gone} → before < 2 ^ 62 → length ms ≤ 62 → Leaves rest g → (g.count ≤ 62) × (g.takes < 2 ^ 63) × (g.returns ≤ 62)
  small h l v =
      let k = v.count in
      let a = v.takes in
      let b = v.returns in
      let c = many-length is_take (leading stamp f ms) in
      let d = many-length is_return (leading stamp f ms) in
      let e = leading_length stamp f ms in
      (omega arith, omega arith, omega arith)
