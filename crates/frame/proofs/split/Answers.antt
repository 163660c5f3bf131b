-- Each field is loaded at its place. A loaded number is below 256 to its width, so no cast loses anything. Assumes nothing.
use borrow.Author.Rules.{rules, Fits-under}
use Prim.Native.Nat.{ℕ, ◌^◌}
use native.Mathlib.Omega.{arith}
use borrow.Author.Tests.{eq-eqb}
use mathlib.Core.Path.{◌≡◌, ap, ◌∙◌}
use mathlib.Core.List.{List, [], ◌∷◌}
use lib.Dec.{T, leb}
use lib.ListN.{length, get_or}
use mir.Syntax.{Width, w8}
use mir.Val.{Fits, bits}
use Rattle.laws.specs.Big.{fields_in}
use Rattle.laws.proofs.BigLaws.{all_bytes}
use Rattle.laws.proofs.Ladders.{picks, on}
use Rattle.fields.specs.Field.{field_at}
use Rattle.fields.proofs.FieldLaws.{loaded_fits}
use Rattle.fields.proofs.Rows.{loads_row}
use Rattle.frame.specs.Frame.{widths, size, fields_from, fields_of}
use Rattle.frame.proofs.split.Goals as goal

-- a loaded number fits the width that it is cast to
fits : (w : Width) (s : List ℕ) (at width r : ℕ) → ((i : ℕ) → Fits w8 (get_or s i 0)) → r ≡ field_at s at width → T (leb (256 ^ width) (2 ^ bits w)) → Fits w r
fits w s at width r h e t = Fits-under w r (256 ^ width) (rw e (loaded_fits s at width (all_bytes s (λ i. (h i).fits)))) t

-- six numbers loaded one after the other
six : (s : List ℕ) → length s ≡ size → {mark version feeder kind sender counter : ℕ}
    → mark ≡ field_at s 0 3 → version ≡ field_at s 3 2 → feeder ≡ field_at s 5 1 → kind ≡ field_at s 6 1 → sender ≡ field_at s 7 1 → counter ≡ field_at s 8 4
    → fields_from (mark ∷ version ∷ feeder ∷ kind ∷ sender ∷ counter ∷ []) ≡ fields_from (fields_in widths s)
six s h a b c d e f = (λ i. fields_from (a i ∷ b i ∷ c i ∷ d i ∷ e i ∷ f i ∷ [])) ∙ ap fields_from (loads_row s 0 widths tt (omega arith))

pub overflow_cast-mark : goal.overflow_cast-mark
overflow_cast-mark c = fits _ _ _ _ _ c.type_inv.s c.load-mark.ensures tt

pub overflow_cast-version : goal.overflow_cast-version
overflow_cast-version c = fits _ _ _ _ _ c.type_inv.s c.load-version.ensures tt

pub overflow_cast-feeder : goal.overflow_cast-feeder
overflow_cast-feeder c = fits _ _ _ _ _ c.type_inv.s c.load-feeder.ensures tt

pub overflow_cast-kind : goal.overflow_cast-kind
overflow_cast-kind c = fits _ _ _ _ _ c.type_inv.s c.load-kind.ensures tt

pub overflow_cast-sender : goal.overflow_cast-sender
overflow_cast-sender c = fits _ _ _ _ _ c.type_inv.s c.load-sender.ensures tt

pub overflow_cast-counter : goal.overflow_cast-counter
overflow_cast-counter c = fits _ _ _ _ _ c.type_inv.s c.load-counter.ensures tt

pub returns-then-s-eq-SIZE : goal.returns-then-s-eq-SIZE
unfolding fields_of
returns-then-s-eq-SIZE c =
    on _ _ _ (eq-eqb _ _ c.if-s-eq-SIZE.true)
    (six c.args.s.now c.if-s-eq-SIZE.true
    c.load-mark.ensures
    c.load-version.ensures
    c.load-feeder.ensures
    c.load-kind.ensures
    c.load-sender.ensures
    c.load-counter.ensures)

pub returns : goal.returns
unfolding fields_of
returns c = search (picks, rules) depth 8
