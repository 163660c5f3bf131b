-- What each call gives back and leaves, for every record, every frame and every lent buffer.
use Rattle.post.specs.declared.{Post.{Post}, Started.{Started}, Marks.{Marks}, Answer.{Answer}, Missing.{Missing}}
use Rattle.std.specs.Prelude.{Result, Ok, Err, ℤ, ◌≡◌, Bool, true, false, not, cond, ◌&&◌, List, [], ◌∷◌, ℕ, ◌+◌, max, ltb, eqb, pos, ◌-ℤ◌, length, set}
use Rattle.laws.specs.Ladder.{Row, ◌when◌, unless}
use Rattle.laws.specs.{Lists.{many, put}, Below.{count_to, bits_to}}
use Rattle.frame.specs.{declared.Message.{Message}, Message.{msg, ack_kind, counted, stamp_of, stamp, by, own_take}, declared.refusal.Refusal.{Refusal}, Refusal.{number, number_in}, Frame.{over, fields_of}}
use Rattle.calls.specs.{declared.Start.{Start}, Start.{starting, in_range}, declared.Own.{Own}, Own.{row_of}, View.{View, acks}, Table.{own_tests, receive_tests}}
use Rattle.post.specs.{Record.{start_of, last_of, waiting_of, fresh, remade}, Sound.{sound}, Settle.{settle}}

-- a start: the record and the number
pub record StartTold : Type 0 where
  pub post : Post
  pub number : ℕ

abbrev pub start_told : Started → StartTold
start_told s = record { post = s.post; number = number_in s.outcome }

-- a refused one gives the all-zero record
unfoldable pub started : Start → StartTold
started st = cond (in_range st) (record { post = fresh st; number = 0 }) (record { post = fresh (starting 0 0 0 0); number = 1 })

-- what the table looks at
abbrev pub view_of : Post → View
view_of p = record { start = start_of p; clock = p.clock; phase = p.phase; last = last_of p; waits = λ q. many (by q) (waiting_of p) }

-- the refusals of each call; n is the length of the lent buffer
unfoldable pub own_rows : Own → Post → ℕ → List Row
own_rows o p n = 1 when not (sound p) ∷ own_tests o (view_of p) n

unfoldable pub receive_rows : Post → List ℕ → ℕ → List Row
receive_rows p s n = 1 when not (sound p) ∷ receive_tests (view_of p) s n

-- the own next message of a kind: the clock rises by 1, and the message bears it
abbrev pub saying : Post → ℕ → Message
saying p kind = msg kind p.own (p.clock + 1)

-- the record before anything is settled, with an own message sent
unfoldable pub spoken : Own → Post → Post
spoken o p =
    let m = saying p (row_of o).kind in
    remade p m.counter (set p.last p.own m.counter) (put stamp m (waiting_of p)) (row_of o).to 0

-- the clock once m has come: the larger of the two, and one more where m is acknowledged
abbrev pub clock_with : Post → Message → ℕ
clock_with p m = let c = max p.clock m.counter in cond (acks (view_of p) m) (c + 1) c

-- the last counters then: the sender's is that of m, the own one that of the acknowledgment
abbrev pub last_with : Post → Message → List ℕ
last_with p m = let heard = set p.last m.sender m.counter in cond (acks (view_of p) m) (set heard p.own (clock_with p m)) heard

-- what waits then: a take or return is among it
abbrev pub waiting_with : Post → Message → List Message
waiting_with p m = cond (counted m) (put stamp m (waiting_of p)) (waiting_of p)

-- the record before anything is settled, with m received
unfoldable pub came : Post → Message → Post
came p m = remade p (clock_with p m) (last_with p m) (waiting_with p m) p.phase p.order

-- a call's answer: record, number and marks
pub record AnswerTold : Type 0 where
  pub post : Post
  pub number : ℕ
  pub wrote : Bool
  pub granted : Bool

abbrev pub outcome_told : Post → Result Marks Refusal → AnswerTold
outcome_told p (Ok m) = record { post = p; number = 0; wrote = m.wrote; granted = m.granted }
outcome_told p (Err r) = record { post = p; number = number r; wrote = false; granted = false }

abbrev pub answer_told : Answer → AnswerTold
answer_told a = outcome_told a.post a.outcome

-- .. and the lent bytes at its end
pub record Outcome : Type 0 where
  pub gives : AnswerTold
  pub leaves : List ℕ

-- what came of a call is the outcome
pub record Gives (o : Outcome) (result : Answer) (after : List ℕ) : Type 0 where
  pub gives : answer_told result ≡ o.gives
  pub leaves : after ≡ o.leaves

-- done, with the phase before and the record after
abbrev pub answer : ℕ → Post → Bool → AnswerTold
answer before p wrote = record { post = p; number = 0; wrote = wrote; granted = not (eqb before 3) && eqb p.phase 3 }

-- refused: the record and the lent bytes stay
abbrev pub refused : Post → ℕ → AnswerTold
refused p n = record { post = p; number = n; wrote = false; granted = false }

abbrev pub stays : Post → List ℕ → ℕ → Outcome
stays p lent n = record { gives = refused p n; leaves = lent }

-- an own message goes out
abbrev pub said : Own → Post → List ℕ → Outcome
said o p lent = record { gives = answer p.phase (settle (spoken o p)) true; leaves = over p.feeder (saying p (row_of o).kind) lent }

-- a message comes in, and its acknowledgment goes out
unfoldable pub heard_from : Post → Message → List ℕ → Outcome
heard_from p m lent =
    let wrote = acks (view_of p) m in
    record { gives = answer p.phase (settle (came p m)) wrote; leaves = cond wrote (over p.feeder (msg ack_kind p.own (clock_with p m)) lent) lent }

-- a take or a return
abbrev pub spoke : Own → Post → List ℕ → Outcome
spoke o p lent = unless (own_rows o p (length lent)) (stays p lent) (said o p lent)

abbrev pub received : Post → List ℕ → List ℕ → Outcome
received p s lent = unless (receive_rows p s (length lent)) (stays p lent) (heard_from p (fields_of s).message lent)

-- what an inquiry gives: the number, and zeros where it is a refusal
pub record ValueTold : Type 0 where
  pub number : ℕ
  pub value : ℤ

abbrev pub value_told : Result ℤ Refusal → ValueTold
value_told (Ok v) = record { number = 0; value = v }
value_told (Err r) = record { number = number r; value = pos 0 }

pub record MissingTold : Type 0 where
  pub number : ℕ
  pub set : ℕ
  pub count : ℕ

abbrev pub missing_told : Result Missing Refusal → MissingTold
missing_told (Ok m) = record { number = 0; set = m.set; count = m.count }
missing_told (Err r) = record { number = number r; set = 0; count = 0 }

-- K + settled returns - settled takes
unfoldable pub valued : Post → ValueTold
valued p =
    cond (sound p)
    (record { number = 0; value = pos (p.places + p.returns) -ℤ pos p.takes })
    (record { number = 1; value = pos 0 })

-- the stamp of the own take that waits; 0 where none does
unfoldable pub own_stamp : ℕ → List Message → ℕ
own_stamp own [] = 0
own_stamp own (m ∷ ms) = cond (own_take own m) (stamp m) (own_stamp own ms)

-- another post whose last stamp is below the own unsettled take
unfoldable pub lacks : Post → ℕ → Bool
lacks p q = eqb p.phase 1 && (not (eqb q p.own) && ltb (stamp_of (last_of p q) q) (own_stamp p.own (waiting_of p)))

-- bit q for post q, and how many bits are set
unfoldable pub missed : Post → MissingTold
missed p =
    cond (sound p)
    (record { number = 0; set = bits_to p.posts (lacks p); count = count_to p.posts (lacks p) })
    (record { number = 1; set = 0; count = 0 })
