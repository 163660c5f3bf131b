-- Demand 2, of frames: "Frames read back as written, and each accepted frame is the only way to write its message." `proofs/Frames` proves it.
use Rattle.std.specs.Prelude.{List, ◌≡◌, ℕ, ◌<◌, ◌^◌, take}
use Rattle.laws.specs.{Big.{Bytes}, Ladder.{refusal}}
use Rattle.frame.specs.{declared.Message.{Message}, Frame.{size, frame, read_frame, write_rows, write_no, bytes_after}}

-- the numbers have the widths of the code's arguments
pub record InWidth (f : ℕ) (m : Message) : Type 0 where
  pub feeder : f < 256
  pub kind : m.kind < 256
  pub sender : m.sender < 256
  pub counter : m.counter < 256 ^ 4

-- what is written reads back
abbrev pub WrittenReadsBack : Type 0
WrittenReadsBack =
    (old : List ℕ) (f : ℕ) (m : Message) → InWidth f m → write_no old m ≡ 0
    → read_frame (take size (bytes_after old f m)) ≡ record { number = 0; feeder = f; message = m }

-- an accepted frame is the frame of what it reads as, and that can be written
abbrev pub AcceptedIsFrame : Type 0
AcceptedIsFrame =
    (s : List ℕ) → Bytes s → (read_frame s).number ≡ 0
    → (s ≡ frame (read_frame s).feeder (read_frame s).message) × (refusal (write_rows size (read_frame s).message) ≡ 0)

-- so two accepted frames that read alike are the same bytes
abbrev pub OneFrame : Type 0
OneFrame = (s t : List ℕ) → Bytes s → Bytes t → (read_frame s).number ≡ 0 → read_frame s ≡ read_frame t → s ≡ t
