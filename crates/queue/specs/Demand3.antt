-- Demand 3 over full queues: what is stated. `proofs/Demand3` proves it.
use Rattle.std.specs.Prelude.{Bool, false, cond, List, [], ◌∷◌, ◌++◌, ◌≡◌, ◌⊎◌, ◌↔◌, ℕ, ◌+◌, ◌≤◌, ◌<◌}
use Rattle.laws.specs.Lists.{In, keep, Begins, upto}
use Rattle.frame.specs.{declared.Message.{Message}, Message.{counted, stamp}}
use Rattle.calls.specs.{declared.Start.{Start}, Replies.{Call, Reply, told, worth, lacking, after}}
use Rattle.queue.specs.{Queue.{Queue, settled, takes, grants, latest}, Calls.{on_queue}}
use Rattle.queue.specs.Feeder.{Line, start, Feeder, fresh, sent, had, Act, run, returns_sent, granted, holding}

-- each post's queue was made by calls at that post, with any frames and buffers
abbrev pub Reached : Line → Feeder → Type 0
Reached L s = (p : ℕ) → p < L.posts → (calls : List Call) × (s p ≡ after (on_queue (start L p)) [] calls)

-- what a post has accepted of another is the first so many messages it sent
abbrev pub Faithful : Line → Feeder → Type 0
Faithful L s = (p q : ℕ) → p < L.posts → q < L.posts → (p ≡ q → ⊥) → Begins (had s p q) (sent s p)

-- all is accepted everywhere
abbrev pub Cleared : Line → Feeder → Type 0
Cleared L s = (p q : ℕ) → p < L.posts → q < L.posts → had s p q ≡ sent s p

pub record Demand3 (L : Line) (s : Feeder) : Type 0 where
  -- of any two settled lists one begins the other
  pub one_order : (p q : ℕ) → p < L.posts → q < L.posts
      → Begins (settled (start L p) (s p)) (settled (start L q) (s q)) ⊎ Begins (settled (start L q) (s q)) (settled (start L p) (s p))
  -- takes granted anywhere, less returns sent, never exceed the places
  pub never_more : granted L s ≤ L.places + returns_sent L s
  pub never_more_hold : holding L s ≤ L.places
  -- once all is accepted everywhere, all takes and returns are settled, in one list
  pub all_settled : Cleared L s → (p q : ℕ) → p < L.posts → q < L.posts → settled (start L p) (s p) ≡ keep counted (s q)
  -- .. and the granted takes are exactly those whose number among the settled takes is at most the places plus the returns
  pub exactly : Cleared L s → (p q : ℕ) → p < L.posts → q < L.posts → (t : Message)
      → In t (grants (start L p) (s p)) ↔ (In t (takes (start L q) (s q)) × (t.sender ≡ p) × (upto stamp (takes (start L q) (s q)) t ≤ L.places + returns_sent L s))
  -- the sender of a message is a post of the feeder, so what is granted is granted somewhere; and no two messages share a stamp
  pub senders : (q : ℕ) → q < L.posts → (m : Message) → In m (s q) → m.sender < L.posts
  pub one_stamp : (p q : ℕ) → p < L.posts → q < L.posts → (a b : Message) → In a (s p) → In b (s q) → stamp a ≡ stamp b → a ≡ b

-- strong: whatever calls were made, the one hypothesis is about now
abbrev pub Strong : Type 0
Strong = (L : Line) → L.posts ≤ 16 → (s : Feeder) → Reached L s → Faithful L s → Demand3 L s

-- runs: any list of takes, returns and deliveries of the next message
abbrev pub Runs : Type 0
Runs = (L : Line) → L.posts ≤ 16 → L.feeder ≤ 255 → (acts : List Act) → Demand3 L (run L fresh acts)

-- ---- grants are the marks

abbrev pub marked : Reply → Bool
marked (told t) = t.granted
marked (worth number value) = false
marked (lacking number set count) = false

-- the own take of each call that gave the grant mark, in the order of the calls
unfoldable pub marked_takes : Start → Queue → List Call → List Message
marked_takes st q [] = []
marked_takes st q (c ∷ calls) =
    let a = on_queue st q c in
    cond (marked a.reply) (latest st a.next ∷ []) [] ++ marked_takes st a.next calls

-- the granted takes are those whose call gave the mark, each exactly once
abbrev pub Marks : Type 0
Marks = (st : Start) → st.posts ≤ 16 → st.own < st.posts → (calls : List Call) → grants st (after (on_queue st) [] calls) ≡ marked_takes st [] calls
