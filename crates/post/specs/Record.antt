-- The post's short record: what its fields say, and how one is made.
use Rattle.std.specs.Prelude.{List, [], ◌++◌, ℕ, ◌-◌, ◌^◌, length, get_or, take, replicate}
use Rattle.laws.specs.Below.{least_to}
use Rattle.frame.specs.{declared.Message.{Message}, Message.{blank, stamp_of}}
use Rattle.calls.specs.{declared.Start.{Start}, Start.{starting}}
use Rattle.post.specs.declared.Post.{Post}

-- what the post was started with
abbrev pub start_of : Post → Start
start_of p = starting p.posts p.own p.feeder p.places

-- the last counter of post q
abbrev pub last_of : Post → ℕ → ℕ
last_of p q = get_or p.last q 0

-- the waiting messages
abbrev pub waiting_of : Post → List Message
waiting_of p = take p.waits p.slots

-- the floor: the least stamp (last counter, post) over the other posts; above every stamp where there is none
unfoldable pub floor : Post → ℕ
floor p = least_to p.posts p.own (2 ^ 40) (λ q. stamp_of (last_of p q) q)

-- a record by its fields
abbrev pub made : Start → ℕ → List ℕ → ℕ → List Message → ℕ → ℕ → ℕ → ℕ → Post
made st clock last waits slots takes returns phase order =
    record { posts = st.posts; own = st.own; feeder = st.feeder; places = st.places; clock = clock; last = last; waits = waits; slots = slots; takes = takes; returns = returns; phase = phase; order = order }

-- messages in 62 slots, the unused ones zero
abbrev pub in_slots : List Message → List Message
in_slots ms = ms ++ replicate (62 - length ms) blank

-- the record of a start, with this clock, these last counters, these messages waiting, and what is counted
abbrev pub record_of : Start → ℕ → List ℕ → List Message → ℕ → ℕ → ℕ → ℕ → Post
record_of st clock last ms takes returns phase order = made st clock last (length ms) (in_slots ms) takes returns phase order

-- as it starts
unfoldable pub fresh : Start → Post
fresh st = record_of st 0 (replicate 16 0) [] 0 0 0 0

-- before anything more is counted
unfoldable pub remade : Post → ℕ → List ℕ → List Message → ℕ → ℕ → Post
remade p clock last ms phase order = record_of (start_of p) clock last ms p.takes p.returns phase order
