-- The fields of a message's frame are mark, version 1, feeder and the message; and the counter in any bytes fits its four. Assumes nothing.
use Prim.Native.Nat.{ℕ, ◌<◌, ◌^◌}
use mathlib.Core.Path.{◌≡◌, ap}
use mathlib.Core.List.{List, [], ◌∷◌}
use lib.Dec.{eqb, eqb→eq, lit<}
use lib.ListN.{length}
use Rattle.laws.specs.Big.{Bytes, fields_in}
use Rattle.laws.proofs.Tests.{cond_both}
use Rattle.laws.proofs.BigLaws.{fields_back, fields_fit}
use Rattle.frame.specs.declared.Message.{Message}
use Rattle.frame.specs.declared.Fields.{Fields}
use Rattle.frame.specs.Frame.{mark, widths, size, frame, fields_from, fields_of}
use Rattle.frame.specs.Demand2.{InWidth}

pub frame_fields : (f : ℕ) (m : Message) → InWidth f m → fields_of (frame f m) ≡ record { mark = mark; version = 1; feeder = f; message = m }
unfolding fields_of frame
frame_fields f m h =
    let vs : List ℕ = mark ∷ 1 ∷ f ∷ m.kind ∷ m.sender ∷ m.counter ∷ [] in
    ap fields_from (fields_back widths vs (lit< tt, (lit< tt, (h.feeder, (h.kind, (h.sender, (h.counter, tt)))))))

pub counter_fits : (s : List ℕ) → Bytes s → (fields_of s).message.counter < 256 ^ 4
unfolding fields_of
counter_fits s h =
    cond_both {A = Fields} (λ f. f.message.counter < 256 ^ 4) (eqb (length s) size) (fields_from (fields_in widths s)) (fields_from [])
    (λ y. (fields_fit widths s h (eqb→eq (length s) size y)).1.1.1.1.1.0)
    (λ n. lit< tt)
