-- The calls over the full queue, with frames and lent buffers as bytes.
use Rattle.std.specs.Prelude.{Bool, true, not, cond, ◌&&◌, List, ℕ, suc, eqb, length}
use Rattle.laws.specs.{Ladder.{unless}, Lists.{many, put}, Below.{count_to, bits_to}}
use Rattle.frame.specs.{declared.Message.{Message}, Message.{msg, ack_kind, stamp, by}, Frame.{over, fields_of}}
use Rattle.calls.specs.{declared.Start.{Start}, declared.Own.{Own}, Own.{row_of}, View.{View, acks}, Table.{own_tests, receive_tests}}
use Rattle.calls.specs.Replies.{Call, own_call, receive_call, value_call, missing_call, told, worth, lacking, Answer, refused}
use Rattle.queue.specs.Queue.{Queue, clock, last, waiting, phase, value, lacks}

-- what the table looks at
abbrev pub view : Start → Queue → View
view st q = record { start = st; clock = clock q; phase = phase st q; last = λ r. last r q; waits = λ r. many (by r) (waiting st q) }

-- the own next message of a kind: the clock rises by 1, and the message bears it
unfoldable pub saying : Start → ℕ → Queue → Message
saying st kind q = msg kind st.own (suc (clock q))

unfoldable pub say : Start → ℕ → Queue → Queue
say st kind q = put stamp (saying st kind q) q

-- a message comes in, and its acknowledgment goes out
unfoldable pub accept : Start → Queue → Message → Queue
accept st q m = cond (acks (view st q) m) (say st ack_kind (put stamp m q)) (put stamp m q)

-- the grant came in this call
unfoldable pub grant_came : Start → Queue → Queue → Bool
grant_came st q q' = not (eqb (phase st q) 3) && eqb (phase st q') 3

-- done, with the queue before and after
abbrev pub answer : Start → Queue → Queue → Bool → List ℕ → Answer Queue
answer st q q' wrote lent = record { next = q'; reply = told (record { number = 0; wrote = wrote; granted = grant_came st q q'; lent = lent }) }

-- an own message is sent
unfoldable pub said : Start → Queue → Own → List ℕ → Answer Queue
said st q o lent = let kind = (row_of o).kind in answer st q (say st kind q) true (over st.feeder (saying st kind q) lent)

-- a message is received
unfoldable pub received : Start → Queue → Message → List ℕ → Answer Queue
received st q m lent =
    let wrote = acks (view st q) m in
    answer st q (accept st q m) wrote (cond wrote (over st.feeder (saying st ack_kind (put stamp m q)) lent) lent)

unfoldable pub on_queue : Start → Queue → Call → Answer Queue
on_queue st q (own_call o lent) = unless (own_tests o (view st q) (length lent)) (refused q lent) (said st q o lent)
on_queue st q (receive_call s lent) = unless (receive_tests (view st q) s (length lent)) (refused q lent) (received st q (fields_of s).message lent)
on_queue st q value_call = record { next = q; reply = worth 0 (value st q) }
on_queue st q missing_call = record { next = q; reply = lacking 0 (bits_to st.posts (lacks st q)) (count_to st.posts (lacks st q)) }
