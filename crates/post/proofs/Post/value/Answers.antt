use borrow.Author.Rules.{rules}
use Prim.Native.Nat.{◌<◌, ◌+◌, ◌^◌}
use mathlib.Core.Path.{refl, ap₂, ◌∙◌, sym}
use native.Mathlib.Omega.{arith}
use denote.Floats.{passes}
use lib.Dec.{T}
use lib.IntN.{ℤ, ◌-ℤ◌}
use mir.Syntax.{w64}
use mir.Val.{to_z, of_z}
use mir.Facts.{to_z_pos, to_z-of_z}
use Rattle.laws.proofs.Ladders.{on, off}
use Rattle.laws.proofs.IntLaws.{minus_fits}
use Rattle.post.specs.Sound.{sound}
use Rattle.post.specs.Calls.{valued}
use Rattle.post.proofs.Sound.Facts.{sound_has}
use Rattle.post.proofs.Fields.Values.{counts_small}
use Rattle.post.proofs.Fields.Shape.{Width}
use Rattle.post.specs.declared.Post.{Post}
use Rattle.post.proofs.Post.value.Goals as goal

fits : (p : Post) → Width p → T (sound p) → (p.places + p.returns < 2 ^ 63) × (p.takes < 2 ^ 63)
fits p w t = let s = sound_has p t in let h = counts_small p s w in let k = s.range.places_high in (omega arith, omega arith)

pub returns-then-not-is_sound : goal.returns-then-not-is_sound
unfolding valued
returns-then-not-is_sound c = off _ _ _ (sym c.is_sound.ensures ∙ c.if-not-is_sound.true) refl

pub overflow_add-result : goal.overflow_add-result
overflow_add-result c = let h = (fits c.args.self (search rules) (passes _ (sym c.is_sound.ensures ∙ c.if-not-is_sound.false))).0 in omega arith

pub overflow_cast-result-2 : goal.overflow_cast-result-2
overflow_cast-result-2 c = let h = (fits c.args.self (search rules) (passes _ (sym c.is_sound.ensures ∙ c.if-not-is_sound.false))).0 in record { sfits = omega arith }

pub overflow_cast-result-3 : goal.overflow_cast-result-3
overflow_cast-result-3 c = let h = (fits c.args.self (search rules) (passes _ (sym c.is_sound.ensures ∙ c.if-not-is_sound.false))).1 in record { sfits = omega arith }

pub overflow_sub-result : goal.overflow_sub-result
overflow_sub-result c =
    let h = fits c.args.self (search rules) (passes _ (sym c.is_sound.ensures ∙ c.if-not-is_sound.false)) in
    rw (to_z_pos w64 h.0, to_z_pos w64 h.1) (minus_fits _ _ h.0 h.1)

pub returns : goal.returns
unfolding valued
returns c =
    let y = sym c.is_sound.ensures ∙ c.if-not-is_sound.false in
    let h = fits c.args.self (search rules) (passes _ y) in
    let v = ap₂ (λ (x y : ℤ). to_z w64 (of_z w64 (x -ℤ y))) (to_z_pos w64 h.0) (to_z_pos w64 h.1) ∙ to_z-of_z (minus_fits _ _ h.0 h.1) in
    on _ _ _ y (λ i. record { number = 0; value = v i })
