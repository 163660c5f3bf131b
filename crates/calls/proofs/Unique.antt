-- Each field is told by its number. Assumes nothing.
use mathlib.Core.Path.{◌∙◌, sym}
use Rattle.frame.proofs.Refusals.{one_kind, one_refusal}
use Rattle.calls.specs.Unique.{Unique}

pub unique : Unique
unique = record {
  row = λ o a b p q.
      let k = one_kind _ a.kind b.kind p.0 q.0 in
      let f = p.1 ∙ sym q.1 in
      let r = one_refusal _ a.other b.other p.2 q.2 in
      let t = p.3 ∙ sym q.3 in
      λ i. record { kind = k i; from = f i; other = r i; to = t i };
}
