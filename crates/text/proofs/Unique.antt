-- A text put from a place on leaves no choice. Assumes nothing.
use Prim.Native.Nat.{ℕ}
use mathlib.Core.Path.{◌∙◌, sym}
use mathlib.Core.List.{List, [], ◌∷◌}
use Rattle.laws.specs.One.{OneAfter}
use Rattle.text.specs.{Decimal.{decimal}, Puts.{Puts, fitting}, Unique.{Unique}}

puts_one : (old text : List ℕ) (at : ℕ) → OneAfter ℕ (λ r after. Puts old after at text r)
puts_one old text at i j a b p q = (p.next_place ∙ sym q.next_place, p.bytes ∙ sym q.bytes)

pub unique : Unique
unique = record {
  byte = λ old at b. puts_one old (fitting old at (b ∷ [])) at;
  word = λ old w at. puts_one old (fitting old at w) at;
  number = λ old at n. puts_one old (fitting old at (decimal n)) at;
}
