-- Demand 3 said of boards: of what they were asked, what they answered and what they wrote, and of nothing else. `proofs/Demand3` proves it.
use Rattle.std.specs.Prelude.{cond, List, [], ◌∷◌, ◌++◌, map, ◌≡◌, ◌⊎◌, ◌↔◌, ℕ, ◌+◌, ◌≤◌, ◌<◌, leb, eqb, length, ◌&&◌}
use Rattle.laws.specs.{Lists.{In, keep, many, final, Begins, put, upto}, Below.{sum_to, count_to}}
use Rattle.frame.specs.{declared.Message.{Message}, Message.{blank, is_take, is_return, counted, stamp, by}, Frame.{fields_of}}
use Rattle.calls.specs.declared.Start.{Start}
use Rattle.calls.specs.Replies.{Call, own_call, receive_call, value_call, missing_call, Reply, Answer, after}
use Rattle.post.specs.{declared.Post.{Post}, Record.{floor}}
use Rattle.queue.specs.{Calls.{on_queue}, Feeder.{Line, start, LineFits}, Demand3.{marked}}
use Rattle.beside.specs.{OnRecord.{on_record, started_post}, Tells.{written, done}, Demand2.{Accepted, FramesAreBytes}}

-- ---- what can be seen of one board

-- a call, and what it gave back
pub record Event : Type 0 where
  pub call : Call
  pub reply : Reply

-- calls made one after another
module _ {S : Type 0} (step : S → Call → Answer S) where
  unfoldable pub history : S → List Call → List Event
  history s [] = []
  history s (c ∷ calls) = record { call = c; reply = (step s c).reply } ∷ history (step s c).next calls

-- the frame that a call handed in
abbrev pub frame_in : Call → List (List ℕ)
frame_in (own_call o lent) = []
frame_in (receive_call s lent) = s ∷ []
frame_in value_call = []
frame_in missing_call = []

-- .. where the reply says that it was accepted
abbrev pub taken : Event → List (List ℕ)
taken e = cond (done e.reply) (frame_in e.call) []

-- the frames that a board wrote, and those that it accepted of post r, each in order
unfoldable pub wrote : List Event → List (List ℕ)
wrote [] = []
wrote (e ∷ es) = written e.reply ++ wrote es

abbrev pub message_in : List ℕ → Message
message_in f = (fields_of f).message

unfoldable pub accepted_of : ℕ → List Event → List (List ℕ)
accepted_of r [] = []
accepted_of r (e ∷ es) = keep (λ f. eqb (message_in f).sender r) (taken e) ++ accepted_of r es

-- the messages that it wrote or accepted, each put in its place by stamp as it came
abbrev pub put_all : List Message → List Message → List Message
put_all [] ms = ms
put_all (m ∷ new) ms = put_all new (put stamp m ms)

unfoldable pub held : List Message → List Event → List Message
held ms [] = ms
held ms (e ∷ es) = held (put_all (map message_in (taken e ++ written e.reply)) ms) es

-- the takes whose call gave the grant mark: at each, the last take that was written by then
unfoldable pub marks : Message → List Event → List Message
marks t [] = []
marks t (e ∷ es) =
    let t' = final (keep is_take (map message_in (written e.reply))) t in
    cond (marked e.reply) (t' ∷ []) [] ++ marks t' es

-- the messages that a post has of itself and of another, sorted by stamp, are those it wrote and those it accepted, in the order of the calls
abbrev pub InOrder : Type 0
InOrder = (st : Start) → Accepted st → (calls : List Call) → FramesAreBytes calls
    → let q = after (on_queue st) [] calls in let es = history on_record (started_post st) calls in
    (map message_in (wrote es) ≡ keep (by st.own) q) × ((r : ℕ) → (r ≡ st.own → ⊥) → map message_in (accepted_of r es) ≡ keep (by r) q)

-- ---- the boards of a feeder, each with any calls, any frames and any buffers

module _ (L : Line) (calls : ℕ → List Call) where
  abbrev pub events : ℕ → List Event
  events p = history on_record (started_post (start L p)) (calls p)

  abbrev pub board_of : ℕ → Post
  board_of p = after on_record (started_post (start L p)) (calls p)

  -- what q has accepted of p is the first so many frames that p wrote
  abbrev pub FirstFrames : Type 0
  FirstFrames = (p q : ℕ) → p < L.posts → q < L.posts → (p ≡ q → ⊥) → Begins (accepted_of p (events q)) (wrote (events p))

  -- every frame written is accepted by all the others
  abbrev pub AllAccepted : Type 0
  AllAccepted = (p q : ℕ) → p < L.posts → q < L.posts → (p ≡ q → ⊥) → accepted_of p (events q) ≡ wrote (events p)

  -- a board's settled list: the takes and returns that it wrote or accepted, by stamp, at or below its record's floor
  abbrev pub settled_at : ℕ → List Message
  settled_at p = keep (λ m. counted m && leb (stamp m) (floor (board_of p))) (held [] (events p))

  abbrev pub granted_at : ℕ → List Message
  granted_at p = marks blank (events p)

  abbrev pub returns_written : ℕ
  returns_written = sum_to L.posts (λ p. many is_return (map message_in (wrote (events p))))

  pub record Boards : Type 0 where
    -- of any two boards' settled lists, one begins the other
    pub one_order : (p q : ℕ) → p < L.posts → q < L.posts → Begins (settled_at p) (settled_at q) ⊎ Begins (settled_at q) (settled_at p)
    -- takes granted anywhere, less returns written, never exceed the places; and never more posts hold
    pub never_more : sum_to L.posts (λ p. length (granted_at p)) ≤ L.places + returns_written
    pub never_more_hold : count_to L.posts (λ p. eqb (board_of p).phase 3) ≤ L.places
    -- once every frame written is accepted by all the others: all takes and returns are settled, in one list
    pub all_settled : AllAccepted → (p q : ℕ) → p < L.posts → q < L.posts → settled_at p ≡ keep counted (held [] (events q))
    -- .. and the granted takes are exactly those whose number among the settled takes is at most the places plus the returns
    pub exactly : AllAccepted → (p q : ℕ) → p < L.posts → q < L.posts → (t : Message)
        → In t (granted_at p) ↔ (In t (keep is_take (settled_at q)) × (t.sender ≡ p) × (upto stamp (keep is_take (settled_at q)) t ≤ L.places + returns_written))
    -- the sender of a settled message is a post of the feeder, so what is granted is granted somewhere
    pub senders : (q : ℕ) → q < L.posts → (m : Message) → In m (settled_at q) → m.sender < L.posts

abbrev pub OfBoards : Type 0
OfBoards = (L : Line) → LineFits L → (calls : ℕ → List Call) → ((p : ℕ) → p < L.posts → FramesAreBytes (calls p)) → FirstFrames L calls → Boards L calls
