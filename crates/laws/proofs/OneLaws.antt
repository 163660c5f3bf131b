-- What equals a definition is one. Assumes nothing.
use mathlib.Core.Path.{◌≡◌, ◌∙◌, sym}
use Rattle.laws.specs.One.{One}

pub one : {A : Type 0} (d : A) → One A (λ r. r ≡ d)
one d a b p q = p ∙ sym q
