-- Demand 2: the short record answers as the full queue does. What is stated; `proofs/` proves it.
use Rattle.std.specs.Prelude.{◌≡◌, not, List, [], ◌∷◌, map, ℕ, T}
use Rattle.laws.specs.Big.{Bytes}
use Rattle.calls.specs.{declared.Start.{Start}, Start.{in_range}}
use Rattle.calls.specs.Replies.{Call, own_call, receive_call, value_call, missing_call, after, replies}
use Rattle.frame.specs.Frame.{frame, fields_of}
use Rattle.post.specs.{declared.Post.{Post}, Calls.{received}}
use Rattle.queue.specs.{Queue.{phase, order}, Calls.{on_queue}}
use Rattle.beside.specs.{Image.{image}, OnRecord.{on_record, started_post}, Demand1.{refused_with}}

-- the start is accepted
abbrev pub Accepted : Start → Type 0
Accepted st = T (in_range st)

-- frames are bytes; lent buffers may hold anything
abbrev pub FramesAreBytes : List Call → Type 0
FramesAreBytes [] = Unit
FramesAreBytes (receive_call s lent ∷ calls) = Bytes s × FramesAreBytes calls
FramesAreBytes (own_call o lent ∷ calls) = FramesAreBytes calls
FramesAreBytes (value_call ∷ calls) = FramesAreBytes calls
FramesAreBytes (missing_call ∷ calls) = FramesAreBytes calls

-- every answer of the record is the answer of the queue: numbers, marks, lent bytes, value, missing set and count
abbrev pub Demand2 : Type 0
Demand2 = (st : Start) → Accepted st → (calls : List Call) → FramesAreBytes calls → replies on_record (started_post st) calls ≡ replies (on_queue st) [] calls

-- because the record is the record of the queue
abbrev pub SameRecord : Type 0
SameRecord = (st : Start) → Accepted st → (calls : List Call) → FramesAreBytes calls → after on_record (started_post st) calls ≡ image st (after (on_queue st) [] calls)

-- given the same calls, record and queue show the same order numbers and the same grants
abbrev pub SideBySide : Type 0
SideBySide = (st : Start) → Accepted st → (calls : List Call) → FramesAreBytes calls
    → let p = after on_record (started_post st) calls in let q = after (on_queue st) [] calls in
    (p.order ≡ order st q) × (p.phase ≡ phase st q)

-- a refused start has no queue: every later call gives 1 and changes nothing
abbrev pub RefusedStart : Type 0
RefusedStart = (st : Start) → T (not (in_range st)) → (calls : List Call)
    → (replies on_record (started_post st) calls ≡ map (refused_with 1) calls) × (after on_record (started_post st) calls ≡ started_post st)

-- a frame that receive accepts is the only way to write its message: it is the message's frame on the record's feeder, whatever the record
abbrev pub AcceptedFrame : Type 0
AcceptedFrame = (p : Post) (s lent : List ℕ) → Bytes s → (received p s lent).gives.number ≡ 0 → s ≡ frame p.feeder (fields_of s).message
