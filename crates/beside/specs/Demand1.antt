-- Demand 1, of every record, call, start and frame: the number is that of the first row of document 01's table that applies, and a refusal changes nothing.
-- That the code gives this for every input, and ends, is in its contracts (`src/`), which have no `requires`. `proofs/Demand1` proves what is stated here.
use Rattle.std.specs.Prelude.{◌≡◌, not, List, [], ◌∷◌, ℕ, T, pos, length}
use Rattle.laws.specs.Ladder.{Row, ◌when◌, refusal}
use Rattle.frame.specs.{declared.Message.{Message}, Message.{blank}, Frame.{fields_of, read_rows, read_frame, write_no, bytes_after}}
use Rattle.calls.specs.{declared.Start.{Start}, Start.{starting, in_range}}
use Rattle.calls.specs.Replies.{Call, own_call, receive_call, value_call, missing_call, Reply, worth, lacking, refusing}
use Rattle.post.specs.{declared.Post.{Post}, Record.{fresh}, Sound.{sound}, Calls.{started, own_rows, receive_rows}}
use Rattle.beside.specs.{OnRecord.{on_record}, Tells.{done}}

-- the rows that a call goes by
abbrev pub rows_of : Post → Call → List Row
rows_of p (own_call o lent) = own_rows o p (length lent)
rows_of p (receive_call s lent) = receive_rows p s (length lent)
rows_of p value_call = 1 when not (sound p) ∷ []
rows_of p missing_call = 1 when not (sound p) ∷ []

-- what a call gives that is refused with n: no mark, the lent bytes as they were, zeros
abbrev pub refused_with : ℕ → Call → Reply
refused_with n (own_call o lent) = refusing lent n
refused_with n (receive_call s lent) = refusing lent n
refused_with n value_call = worth n (pos 0)
refused_with n missing_call = lacking n 0 0

abbrev pub read_no : List ℕ → ℕ
read_no s = refusal (read_rows (length s) (fields_of s))

pub record Demand1 : Type 0 where
  -- a call that a row refuses gives the row's number and zeros, and leaves the record and the lent bytes
  pub refused : (p : Post) (c : Call) → (refusal (rows_of p c) ≡ 0 → ⊥)
      → ((on_record p c).reply ≡ refused_with (refusal (rows_of p c)) c) × ((on_record p c).next ≡ p)
  -- one that no row refuses gives 0
  pub accepted : (p : Post) (c : Call) → refusal (rows_of p c) ≡ 0 → T (done (on_record p c).reply)
  -- a start out of range gives 1 and the all-zero record, which is not sound; one in range gives 0
  pub start-refused : (st : Start) → T (not (in_range st)) → started st ≡ record { post = fresh (starting 0 0 0 0); number = 1 }
  pub start_accepted : (st : Start) → T (in_range st) → (started st).number ≡ 0
  pub zero_unsound : T (sound (fresh (starting 0 0 0 0))) → ⊥
  -- a frame that is refused reads as zeros; one that is not gives 0
  pub read_refused : (s : List ℕ) → (read_no s ≡ 0 → ⊥) → read_frame s ≡ record { number = read_no s; feeder = 0; message = blank }
  pub read_accepted : (s : List ℕ) → read_no s ≡ 0 → (read_frame s).number ≡ 0
  -- a writing that is refused changes no byte
  pub write_refused : (old : List ℕ) (feeder : ℕ) (m : Message) → (write_no old m ≡ 0 → ⊥) → bytes_after old feeder m ≡ old
