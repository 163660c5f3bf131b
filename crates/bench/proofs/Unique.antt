-- Each promise is an equation with a definition. Assumes nothing.
use mathlib.Core.Path.{◌∙◌, sym}
use Rattle.laws.proofs.OneLaws.{one}
use Rattle.bench.specs.{Bench.{unfed}, Unique.{Unique}}

pub unique : Unique
unique = record {
  new = one unfed;
  feed = λ b input out f g x y p q. ((λ i. ((p.bench ∙ sym q.bench) i, (p.gives ∙ sym q.gives) i)), p.leaves ∙ sym q.leaves);
  finish = λ b out f g x y p q. (p.gives ∙ sym q.gives, p.leaves ∙ sym q.leaves);
}
