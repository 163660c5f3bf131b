-- What functions inside the crate promise each other, where a record says it best.
use Rattle.post.specs.declared.{Post.{Post}, slots.{Seen.{Seen}, Gone.{Gone}}}
use Rattle.std.specs.Prelude.{Result, IfOk, Bool, true, false, ◌&&◌, Option, None, Some, List, ◌≡◌, ℕ, ◌+◌, ◌-◌, ◌^◌, ◌≤◌, ◌<◌, max, length, get_or, drop, replicate, set, unwrap_or}
use Rattle.laws.specs.Lists.{all, many, put, rises}
use Rattle.laws.specs.Ladder.{refusal}
use Rattle.frame.specs.{declared.Message.{Message}, Message.{blank, msg, ack_kind, is_take, is_return, stamp, by, own_take, own_return}, declared.refusal.Refusal.{Refusal}, Refusal.{number_in}, Frame.{over, fields_of}}
use Rattle.post.specs.{Record.{waiting_of, remade}, Settle.{own_number}, Sound.{fair, is_blank, end_kind}, Calls.{receive_rows, clock_with}}

-- the numbers by which the code reads last counters and slots
pub record InBounds (p : Post) : Type 0 where
  pub posts : p.posts ≤ 16
  pub waits : p.waits ≤ 62

-- what waits is fair and its stamps rise from t, and the other slots are zero
unfoldable pub in_order : Post → ℕ → Bool
in_order p t = (all (fair p.posts p.last) (waiting_of p) && rises stamp t (waiting_of p)) && all is_blank (drop p.waits p.slots)

-- what a look finds of the messages ms: how many of each sender, the own takes and returns, and the kind of the last of them
pub record Found (own : ℕ) (ms : List Message) (seen : Seen) : Type 0 where
  pub counts : (q : ℕ) → q < 16 → get_or seen.counts q 0 ≡ many (by q) ms
  pub takes : seen.takes ≡ many (own_take own) ms
  pub returns : seen.returns ≡ many (own_return own) ms
  pub end : seen.end ≡ end_kind own 0 ms

-- a look over a record by some of its rules: none where they do not hold
abbrev pub Looked : Post → Bool → Option Seen → Type 0
Looked p rules None = rules ≡ false
Looked p rules (Some seen) = (rules ≡ true) × Found p.own (waiting_of p) seen

-- a look at a frame s, with n bytes lent: its refusal, and its message where it has none
pub record Arrives (p : Post) (s : List ℕ) (n : ℕ) (a : Result Message Refusal) : Type 0 where
  pub number : number_in a ≡ refusal (receive_rows p s n)
  pub message : IfOk a (λ m. m ≡ (fields_of s).message)

-- what leaves, after so many takes
pub record Left (own before : ℕ) (ms : List Message) (gone : Gone) : Type 0 where
  pub count : gone.count ≡ length ms
  pub takes : gone.takes ≡ before + many is_take ms
  pub returns : gone.returns ≡ many is_return ms
  pub order : unwrap_or gone.order 0 ≡ own_number own before ms

-- the record with m among the waiting, and this the clock and the last counter sent
unfoldable pub joined : Post → Message → ℕ → Post
joined p m clock = remade p clock (set (set p.last m.sender m.counter) p.own clock) (put stamp m (waiting_of p)) p.phase p.order

-- the record with an acknowledgment received
unfoldable pub noted : Post → Message → Post
noted p m = remade p (max p.clock m.counter) (set p.last m.sender m.counter) (waiting_of p) p.phase p.order

-- the lent bytes once m is acknowledged
abbrev pub acknowledgment_of : Post → Message → List ℕ → List ℕ
acknowledgment_of p m lent = over p.feeder (msg ack_kind p.own (clock_with p m)) lent

-- what can be settled: ranges in which the counts fit, and unused slots that are zero
pub record Countable (p : Post) : Type 0 where
  pub posts : p.posts ≤ 16
  pub waits : p.waits ≤ 62
  pub blanks : drop p.waits p.slots ≡ replicate (62 - p.waits) blank
  pub takes : p.takes < 2 ^ 62
  pub returns : p.returns < 2 ^ 62
