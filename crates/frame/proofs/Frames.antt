-- A frame has one meaning, and a message has one frame: the proofs of `specs/Demand2`. Assumes nothing.
use Prim.Native.Nat.{ℕ}
use mathlib.Core.Path.{◌≡◌, refl, ap, ◌∙◌, sym}
use mathlib.Core.Bool.{Bool, true, false, cond}
use mathlib.Core.List.{List, [], ◌∷◌}
use borrow.Author.Tests.{eqb-true, eq-eqb, not-false}
use lib.Dec.{eqb, lit<}
use lib.ListN.{length, take, drop}
use lib.Seq.{take_at}
use Rattle.laws.specs.Big.{Bytes, fields_in, field_bytes}
use Rattle.laws.specs.Ladder.{refusal}
use Rattle.laws.proofs.BigLaws.{fields_back, only_fields, bytes_fields}
use Rattle.laws.proofs.Ladders.{on, quiet, unrefused}
use Rattle.frame.specs.declared.Message.{Message}
use Rattle.frame.specs.declared.Fields.{Fields}
use Rattle.frame.specs.Demand2.{InWidth, WrittenReadsBack, AcceptedIsFrame, OneFrame}
use Rattle.frame.specs.Message.{blank}
use Rattle.frame.specs.Frame.{mark, widths, size, frame, fields_from, fields_of, message_rows, read_rows, reading, read_frame, write_rows, write_no, bytes_after}

back : (f : ℕ) (m : Message) → InWidth f m → refusal (message_rows m) ≡ 0 → read_frame (frame f m) ≡ record { number = 0; feeder = f; message = m }
unfolding read_frame read_rows fields_of frame
back f m h e =
    let vs : List ℕ = mark ∷ 1 ∷ f ∷ m.kind ∷ m.sender ∷ m.counter ∷ [] in
    ap (λ (v : List ℕ). reading (refusal (read_rows size (fields_from v))) (fields_from v))
    (fields_back widths vs (lit< tt, (lit< tt, (h.feeder, (h.kind, (h.sender, (h.counter, tt)))))))
    ∙ sym (on (eqb (refusal (message_rows m)) 0) _ _ (eq-eqb _ 0 e) refl)

-- a frame is bytes
pub bytes_frame : (f : ℕ) (m : Message) → Bytes (frame f m)
unfolding frame
bytes_frame f m = bytes_fields widths (mark ∷ 1 ∷ f ∷ m.kind ∷ m.sender ∷ m.counter ∷ [])

length-frame : (f : ℕ) (m : Message) → length (frame f m) ≡ size
unfolding frame
length-frame f m = refl

pub written_reads_back : WrittenReadsBack
unfolding write_rows bytes_after
written_reads_back old f m h e =
    ap (λ (s : List ℕ). read_frame (take size s)) (sym (on (eqb (write_no old m) 0) _ _ (eq-eqb _ 0 e) refl))
    ∙ ap read_frame (take_at (frame f m) (drop size old) size (length-frame f m))
    ∙ back f m h (unrefused (message_rows m) (quiet (write_rows (length old) m) tt e).1)

accepted : (n : ℕ) (f : Fields) → (reading n f).number ≡ 0 → n ≡ 0
accepted n f = go (eqb n 0) refl
  where
    go : (t : Bool) → eqb n 0 ≡ t → (cond t (reading 0 f) (record { number = n; feeder = 0; message = blank })).number ≡ 0 → n ≡ 0
    go true p e = eqb-true n 0 p
    go false p e = e

-- what an accepted frame passed
pub record Passed (s : List ℕ) : Type 0 where
  pub whole : length s ≡ size
  pub marked : (fields_of s).mark ≡ mark
  pub version : (fields_of s).version ≡ 1
  pub message : refusal (message_rows (fields_of s).message) ≡ 0
  pub read : read_frame s ≡ reading 0 (fields_of s)

pub has_passed : (s : List ℕ) → (read_frame s).number ≡ 0 → Passed s
unfolding read_frame read_rows
has_passed s e =
    let f = fields_of s in
    let z : refusal (read_rows (length s) f) ≡ 0 = accepted (refusal (read_rows (length s) f)) f e in
    let q = quiet (read_rows (length s) f) tt z in
    record {
      whole = eqb-true (length s) size (not-false _ q.0);
      marked = eqb-true f.mark mark (not-false _ q.1.0);
      version = eqb-true f.version 1 (not-false _ q.1.1.0);
      message = unrefused (message_rows f.message) q.1.1.1;
      read = ap (λ (n : ℕ). reading n f) z;
    }

-- the six numbers that fields were made from
abbrev numbers : Fields → List ℕ
numbers f = f.mark ∷ f.version ∷ f.feeder ∷ f.message.kind ∷ f.message.sender ∷ f.message.counter ∷ []

of_numbers : (s : List ℕ) → length s ≡ size → fields_in widths s ≡ numbers (fields_of s)
unfolding fields_of
of_numbers s e = ap numbers (on (eqb (length s) size) (fields_from (fields_in widths s)) (fields_from []) (eq-eqb _ size e) refl)

-- bytes with the mark and version of a frame are the frame of the message that stands in them
pub fields_frame : (s : List ℕ) → Bytes s → length s ≡ size → (fields_of s).mark ≡ mark → (fields_of s).version ≡ 1
    → s ≡ frame (fields_of s).feeder (fields_of s).message
unfolding frame
fields_frame s h whole marked version =
    let f = fields_of s in
    let m = f.message in
    sym (only_fields widths s h whole)
    ∙ ap (field_bytes widths) (of_numbers s whole)
    ∙ (λ i. field_bytes widths (marked i ∷ version i ∷ f.feeder ∷ m.kind ∷ m.sender ∷ m.counter ∷ []))

pub accepted_is_frame : AcceptedIsFrame
unfolding write_rows
accepted_is_frame s h e =
    let p = has_passed s e in
    let r : reading 0 (fields_of s) ≡ read_frame s = sym p.read in (
      fields_frame s h p.whole p.marked p.version ∙ (λ i. frame (r i).feeder (r i).message),
      (λ i. refusal (write_rows size (p.read i).message)) ∙ p.message,
    )

pub one_frame : OneFrame
one_frame s t hs ht e r =
    (accepted_is_frame s hs e).0
    ∙ (λ i. frame (r i).feeder (r i).message)
    ∙ sym (accepted_is_frame t ht (sym (λ i. (r i).number) ∙ e)).0
