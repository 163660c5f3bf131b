-- Texts written to a page one after the other are one text. Assumes nothing.
use mathlib.Core.Path.{◌≡◌, ◌∙◌, sym}
use mathlib.Core.List.{List, ◌++◌}
use Prim.Native.Nat.{ℕ}
use Rattle.text.proofs.Putting.{and_then}
use Rattle.bench.specs.declared.writing.Page.{Page}
use Rattle.bench.specs.Inside.{Writes}

pub then : {old mid new : Page} {s t : List ℕ} → Writes old mid s → Writes mid new t → Writes old new (s ++ t)
then p q = record { lays = and_then p.lays q.lays; same = q.same ∙ p.same }

-- another way to write the text
pub spelled : {old new : Page} {s t : List ℕ} → s ≡ t → Writes old new s → Writes old new t
spelled e p = rw (sym e) p
