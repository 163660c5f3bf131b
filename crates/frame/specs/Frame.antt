-- Frames: their bytes, and what reading and writing one give.
use Rattle.std.specs.Prelude.{Result, Ok, Err, not, cond, List, [], ◌∷◌, ◌++◌, ◌≡◌, ℕ, ltb, eqb, length, get_or, drop}
use Rattle.laws.specs.{Big.{total, fields_in, field_bytes}, Ladder.{Row, ◌when◌, refusal}}
use Rattle.frame.specs.{declared.Message.{Message}, declared.Fields.{Fields}, declared.Reading.{Reading}, declared.refusal.Refusal.{Refusal}, Refusal.{number}, Message.{msg, blank, known}}

-- the bytes 46 50 4D
abbrev pub mark : ℕ
mark = 0x46504d

-- the widths of mark, version, feeder, kind, sender, counter
abbrev pub widths : List ℕ
widths = 3 ∷ 2 ∷ 1 ∷ 1 ∷ 1 ∷ 4 ∷ []

-- the bytes of a frame, 12
abbrev pub size : ℕ
size = total widths

-- the frame of a message on a feeder
unfoldable pub frame : ℕ → Message → List ℕ
frame feeder m = field_bytes widths (mark ∷ 1 ∷ feeder ∷ m.kind ∷ m.sender ∷ m.counter ∷ [])

-- a frame over the first bytes; later bytes stay
abbrev pub over : ℕ → Message → List ℕ → List ℕ
over feeder m old = frame feeder m ++ drop size old

abbrev pub fields_from : List ℕ → Fields
fields_from v =
    record { mark = get_or v 0 0; version = get_or v 1 0; feeder = get_or v 2 0; message = msg (get_or v 3 0) (get_or v 4 0) (get_or v 5 0) }

-- what stands in the fields of a frame's bytes; zeros where there are not as many
unfoldable pub fields_of : List ℕ → Fields
fields_of s = cond (eqb (length s) size) (fields_from (fields_in widths s)) (fields_from [])

-- the refusals that reading and writing share
unfoldable pub message_rows : Message → List Row
message_rows m = 7 when not (known m.kind) ∷ 8 when ltb 15 m.sender ∷ 9 when eqb m.counter 0 ∷ []

-- n bytes with these fields are no frame
unfoldable pub form_rows : ℕ → Fields → List Row
form_rows n f = 3 when not (eqb n size) ∷ 4 when not (eqb f.mark mark) ∷ 5 when not (eqb f.version 1) ∷ []

-- reading them
unfoldable pub read_rows : ℕ → Fields → List Row
unfolding form_rows message_rows
read_rows n f = form_rows n f ++ message_rows f.message

-- what reading gives back: the number, and what the frame says, zeros where it is a refusal
pub record ReadingTold : Type 0 where
  pub number : ℕ
  pub feeder : ℕ
  pub message : Message

abbrev pub reading_told : Result Reading Refusal → ReadingTold
reading_told (Ok r) = record { number = 0; feeder = r.feeder; message = r.message }
reading_told (Err r) = record { number = number r; feeder = 0; message = blank }

-- what is read with the number n
abbrev pub reading : ℕ → Fields → ReadingTold
reading n f = cond (eqb n 0) (record { number = 0; feeder = f.feeder; message = f.message }) (record { number = n; feeder = 0; message = blank })

-- what reading a frame gives
unfoldable pub read_frame : List ℕ → ReadingTold
read_frame s = reading (refusal (read_rows (length s) (fields_of s))) (fields_of s)

-- writing to n bytes
unfoldable pub write_rows : ℕ → Message → List Row
unfolding message_rows
write_rows n m = 2 when ltb n size ∷ message_rows m

abbrev pub write_no : List ℕ → Message → ℕ
write_no old m = refusal (write_rows (length old) m)

-- the bytes after writing over old: the first are the frame, and a refusal leaves all
unfoldable pub bytes_after : List ℕ → ℕ → Message → List ℕ
bytes_after old feeder m = cond (eqb (write_no old m) 0) (over feeder m old) old

-- what writing gives and leaves
pub record Written (old new : List ℕ) (feeder : ℕ) (m : Message) (number : ℕ) : Type 0 where
  pub gives : number ≡ write_no old m
  pub leaves : new ≡ bytes_after old feeder m
