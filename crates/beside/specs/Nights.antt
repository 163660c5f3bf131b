-- Document 01's nights P1 to P10: for each, the calls at one post, every reply in full, and what the post has at the end.
-- `proofs/NightsHold` reckons all of them through, over the short record and over the full queue.
use Rattle.std.specs.Prelude.{Bool, true, false, List, [], ◌∷◌, ◌++◌, map, ◌≡◌, ℕ, ◌^◌, pos, negsuc}
use Rattle.laws.specs.Lists.{many}
use Rattle.frame.specs.{declared.Message.{Message}, Message.{msg, take_kind, return_kind, ack_kind, is_take, is_return, stamp_of}, Frame.{frame}}
use Rattle.calls.specs.{declared.Start.{Start}, Start.{starting}, declared.Own.TheVariants.{Taking, Returning}}
use Rattle.calls.specs.Replies.{Call, own_call, receive_call, value_call, missing_call, Reply, told, worth, lacking, refusing, after, replies}
use Rattle.post.specs.Record.{last_of, waiting_of, floor}
use Rattle.queue.specs.{Queue.{Queue, clock, last, floor_of, settled, waiting, phase, order}, Calls.{on_queue}, Feeder.{Line, fresh, Act, own_at, deliver, buffer, run}}
use Rattle.beside.specs.{Image.{list_from}, OnRecord.{on_record, started_post}}

-- what a post has at the end; last is by post from 0, floor is a stamp as one number
pub record Closing : Type 0 where
  pub clock : ℕ
  pub last : List ℕ
  pub floor : ℕ
  pub waiting : List Message
  pub takes : ℕ
  pub returns : ℕ
  pub phase : ℕ
  pub order : ℕ

pub record Night : Type 0 where
  pub start : Start
  pub calls : List Call
  pub answers : List Reply
  pub closing : Closing

-- ---- words for them; every night is on feeder 7, and every call is lent 12 zero bytes

-- post p of n, with k places
abbrev post_of : ℕ → ℕ → ℕ → Start
post_of p n k = starting n p 7 k

-- messages by their stamp (counter, post)
abbrev take : ℕ → ℕ → Message
take c p = msg take_kind p c

abbrev return : ℕ → ℕ → Message
return c p = msg return_kind p c

abbrev ack : ℕ → ℕ → Message
ack c p = msg ack_kind p c

-- calls
abbrev takes : Call
takes = own_call Taking buffer

abbrev returns : Call
returns = own_call Returning buffer

abbrev receives : Message → Call
receives m = receive_call (frame 7 m) buffer

-- replies: done, with these bytes or this message written or nothing; then the same with the grant; refused
abbrev tells : Bool → Bool → List ℕ → Reply
tells wrote granted lent = told (record { number = 0; wrote = wrote; granted = granted; lent = lent })

abbrev writes : Message → Reply
writes m = tells true false (frame 7 m)

abbrev done : Reply
done = tells false false buffer

abbrev writes-granted : Message → Reply
writes-granted m = tells true true (frame 7 m)

abbrev granted : Reply
granted = tells false true buffer

abbrev refused : ℕ → Reply
refused n = refusing buffer n

-- the floor where there is no other post
abbrev above_all : ℕ
above_all = 2 ^ 40

-- clock, last counters, floor, what waits, settled takes and returns, phase, order number
abbrev closing : ℕ → List ℕ → ℕ → List Message → ℕ → ℕ → ℕ → ℕ → Closing
closing c l f w t r p o = record { clock = c; last = l; floor = f; waiting = w; takes = t; returns = r; phase = p; order = o }

abbrev night : Start → List Call → List Reply → Closing → Night
night s cs rs e = record { start = s; calls = cs; answers = rs; closing = e }

-- ---- the nights

-- P1: feeder 7, take, post 0, counter 1 is 46 50 4D 00 01 07 01 00 00 00 00 01, written at post 0 and read at post 1
abbrev P1-bytes : List ℕ
P1-bytes = 0x46 ∷ 0x50 ∷ 0x4D ∷ 0x00 ∷ 0x01 ∷ 0x07 ∷ 0x01 ∷ 0x00 ∷ 0x00 ∷ 0x00 ∷ 0x00 ∷ 0x01 ∷ []

abbrev P1-written : Night
P1-written = night (post_of 0 2 1) (takes ∷ []) (tells true false P1-bytes ∷ []) (closing 1 (1 ∷ 0 ∷ []) (stamp_of 0 1) (take 1 0 ∷ []) 0 0 1 0)

abbrev P1-read : Night
P1-read = night (post_of 1 2 1) (receive_call P1-bytes buffer ∷ []) (writes (ack 2 1) ∷ []) (closing 2 (1 ∷ 2 ∷ []) (stamp_of 1 0) [] 1 0 0 0)

-- P2: N = 1, K = 1: a take is granted in its own call; value 0
abbrev P2 : Night
P2 =
    night (post_of 0 1 1) (takes ∷ value_call ∷ []) (writes-granted (take 1 0) ∷ worth 0 (pos 0) ∷ [])
    (closing 1 (1 ∷ []) above_all [] 1 0 3 1)

-- P3: N = 3, K = 1. Post 0 takes (1,0). After (2,1) it is still in phase 1, missing set 4, count 1
abbrev P3-calls : List Call
P3-calls = takes ∷ receives (ack 2 1) ∷ missing_call ∷ []

abbrev P3-answers : List Reply
P3-answers = writes (take 1 0) ∷ done ∷ lacking 0 4 1 ∷ []

abbrev P3 : Night
P3 = night (post_of 0 3 1) P3-calls P3-answers (closing 2 (1 ∷ 2 ∷ 0 ∷ []) (stamp_of 0 2) (take 1 0 ∷ []) 0 0 1 0)

-- P4: after (2,2) too, granted
abbrev P4 : Night
P4 =
    night (post_of 0 3 1) (P3-calls ++ (receives (ack 2 2) ∷ missing_call ∷ [])) (P3-answers ++ (granted ∷ lacking 0 0 0 ∷ []))
    (closing 2 (1 ∷ 2 ∷ 2 ∷ []) (stamp_of 2 1) [] 1 0 3 1)

-- P5: N = 3, K = 1; posts 0 and 1 both take with counter 1. Post 0, having accepted take (1,1) and then acknowledgment (2,2),
-- has floor (1,1), both settled, number 1, granted, value -1
abbrev P5-calls : List Call
P5-calls = takes ∷ receives (take 1 1) ∷ receives (ack 2 2) ∷ value_call ∷ []

abbrev P5-answers : List Reply
P5-answers = writes (take 1 0) ∷ writes (ack 2 0) ∷ granted ∷ worth 0 (negsuc 0) ∷ []

abbrev P5 : Night
P5 = night (post_of 0 3 1) P5-calls P5-answers (closing 2 (2 ∷ 1 ∷ 2 ∷ []) (stamp_of 1 1) [] 2 0 3 1)

-- .. and later accepts acknowledgment (3,2), so that its return is (4,0)
abbrev P6-at_post_0 : Night
P6-at_post_0 =
    night (post_of 0 3 1) (P5-calls ++ (receives (ack 3 2) ∷ returns ∷ [])) (P5-answers ++ (done ∷ writes (return 4 0) ∷ []))
    (closing 4 (4 ∷ 1 ∷ 3 ∷ []) (stamp_of 1 1) (return 4 0 ∷ []) 2 0 0 0)

-- .. while post 2 acknowledges the takes by (2,2) and (3,2), hears (2,0), and acknowledges the return by (5,2)
abbrev P6-at_post_2 : Night
P6-at_post_2 =
    night (post_of 2 3 1) (receives (take 1 0) ∷ receives (take 1 1) ∷ receives (ack 2 0) ∷ receives (return 4 0) ∷ [])
    (writes (ack 2 2) ∷ writes (ack 3 2) ∷ done ∷ writes (ack 5 2) ∷ [])
    (closing 5 (4 ∷ 1 ∷ 5 ∷ []) (stamp_of 1 1) (return 4 0 ∷ []) 2 0 0 0)

-- P6: in the same run, later, post 1, in phase 2 with number 2, has last counters 4 (a return from post 0) and 3 (post 2): no grant.
-- It is in phase 2 once it has accepted acknowledgment (2,0) of its take
abbrev P6-calls : List Call
P6-calls = takes ∷ receives (take 1 0) ∷ receives (ack 2 0) ∷ receives (ack 2 2) ∷ receives (ack 3 2) ∷ receives (return 4 0) ∷ []

abbrev P6-answers : List Reply
P6-answers = writes (take 1 1) ∷ writes (ack 2 1) ∷ done ∷ done ∷ done ∷ writes (ack 5 1) ∷ []

abbrev P6 : Night
P6 = night (post_of 1 3 1) P6-calls P6-answers (closing 5 (4 ∷ 5 ∷ 3 ∷ []) (stamp_of 3 2) (return 4 0 ∷ []) 2 0 2 2)

-- P7: acknowledgment (5,2) arrives: granted
abbrev P7 : Night
P7 =
    night (post_of 1 3 1) (P6-calls ++ (receives (ack 5 2) ∷ [])) (P6-answers ++ (granted ∷ []))
    (closing 5 (4 ∷ 5 ∷ 5 ∷ []) (stamp_of 4 0) [] 2 1 3 2)

-- P8: N = 3, own number 0, post 2 silent: four takes and returns of post 1 wait, the fifth gets 12; an acknowledgment from post 1 is accepted
abbrev P8 : Night
P8 =
    night (post_of 0 3 1)
    (receives (take 1 1) ∷ receives (return 2 1) ∷ receives (take 3 1) ∷ receives (return 4 1) ∷ receives (take 5 1) ∷ receives (ack 6 1) ∷ [])
    (writes (ack 2 0) ∷ writes (ack 3 0) ∷ writes (ack 4 0) ∷ writes (ack 5 0) ∷ refused 12 ∷ done ∷ [])
    (closing 6 (5 ∷ 6 ∷ 0 ∷ []) (stamp_of 0 2) (take 1 1 ∷ return 2 1 ∷ take 3 1 ∷ return 4 1 ∷ []) 0 0 0 0)

-- P9: the same frame twice: 0, then 10, nothing changed
abbrev P9-closing : Closing
P9-closing = closing 2 (2 ∷ 1 ∷ []) (stamp_of 1 1) [] 1 0 0 0

abbrev P9-once : Night
P9-once = night (post_of 0 2 1) (receives (take 1 1) ∷ []) (writes (ack 2 0) ∷ []) P9-closing

abbrev P9-twice : Night
P9-twice = night (post_of 0 2 1) (receives (take 1 1) ∷ receives (take 1 1) ∷ []) (writes (ack 2 0) ∷ refused 10 ∷ []) P9-closing

-- P10: N = 2, own number 0: acknowledgment (4294967294,1) is accepted; a take goes out with 4,294,967,295; acknowledgment (4294967295,1)
-- brings the grant; the return gets 11
abbrev P10 : Night
P10 =
    night (post_of 0 2 1) (receives (ack 4294967294 1) ∷ takes ∷ receives (ack 4294967295 1) ∷ returns ∷ [])
    (done ∷ writes (take 4294967295 0) ∷ granted ∷ refused 11 ∷ [])
    (closing 4294967295 (4294967295 ∷ 4294967295 ∷ []) (stamp_of 4294967295 1) [] 1 0 3 1)

unfoldable pub nights : List Night
nights = P1-written ∷ P1-read ∷ P2 ∷ P3 ∷ P4 ∷ P5 ∷ P6-at_post_0 ∷ P6-at_post_2 ∷ P6 ∷ P7 ∷ P8 ∷ P9-once ∷ P9-twice ∷ P10 ∷ []

-- ---- what they come to

pub record Shown : Type 0 where
  pub answers : List Reply
  pub closing : Closing

-- over the short record: its fields
unfoldable pub on_the_record : Night → Shown
on_the_record n =
    let p = after on_record (started_post n.start) n.calls in
    record {
      answers = replies on_record (started_post n.start) n.calls;
      closing = closing p.clock (list_from 0 n.start.posts (last_of p)) (floor p) (waiting_of p) p.takes p.returns p.phase p.order;
    }

-- over the full queue: worked out from its messages
unfoldable pub on_the_queue : Night → Shown
on_the_queue n =
    let st = n.start in
    let q = after (on_queue st) [] n.calls in
    record {
      answers = replies (on_queue st) [] n.calls;
      closing = record {
        clock = clock q;
        last = list_from 0 st.posts (λ r. last r q);
        floor = floor_of st q;
        waiting = waiting st q;
        takes = many is_take (settled st q);
        returns = many is_return (settled st q);
        phase = phase st q;
        order = order st q;
      };
    }

abbrev pub reckoned : Night → Shown × Shown
reckoned n = (on_the_record n, on_the_queue n)

-- both show what the night says
abbrev pub expected : Night → Shown × Shown
expected n = let s : Shown = record { answers = n.answers; closing = n.closing } in (s, s)

-- every night comes to what it says, over the record and over the queue
abbrev pub NightsHold : Type 0
NightsHold = map reckoned nights ≡ map expected nights

-- ---- P5 to P7 are one run of demand 3's sort

abbrev three : Line
three = record { posts = 3; feeder = 7; places = 1 }

abbrev P5-acts : List Act
P5-acts = own_at Taking 0 ∷ own_at Taking 1 ∷ deliver 0 2 ∷ deliver 1 2 ∷ deliver 1 0 ∷ deliver 2 0 ∷ []

-- the takes reach post 1 and its take is numbered; post 0 returns, and the return comes to post 1 and, after (2,0), to post 2
abbrev P6-acts : List Act
P6-acts =
    P5-acts
    ++ (deliver 0 1 ∷ deliver 0 1 ∷ deliver 2 1 ∷ deliver 2 1 ∷ deliver 2 0 ∷ own_at Returning 0 ∷ deliver 0 1 ∷ deliver 0 2 ∷ deliver 0 2 ∷ [])

abbrev P7-acts : List Act
P7-acts = P6-acts ++ (deliver 2 1 ∷ [])

-- the queue that a night's calls make at its post
abbrev queue_of : Night → Queue
queue_of n = after (on_queue n.start) [] n.calls

unfoldable pub ran_to : List Queue
ran_to =
    run three fresh P5-acts 0
    ∷ run three fresh P6-acts 0 ∷ run three fresh P6-acts 1 ∷ run three fresh P6-acts 2
    ∷ run three fresh P7-acts 1 ∷ []

-- at each post the run comes to what the night says of it
abbrev pub OneRun : Type 0
OneRun = ran_to ≡ queue_of P5 ∷ queue_of P6-at_post_0 ∷ queue_of P6 ∷ queue_of P6-at_post_2 ∷ queue_of P7 ∷ []
