-- A post by its full queue: every message that it sent or accepted, sorted by stamp. All else is worked out from that list.
use Rattle.std.specs.Prelude.{Bool, not, cond, ◌&&◌, ◌||◌, List, ℕ, ◌+◌, ◌^◌, leb, ltb, eqb, ℤ, pos, ◌-ℤ◌, length}
use Rattle.laws.specs.{Lists.{keep, many, final, upto, top}, Below.{all_to, least_to}}
use Rattle.frame.specs.{declared.Message.{Message}, Message.{msg, return_kind, is_take, is_return, counted, stamp_of, stamp, by}}
use Rattle.calls.specs.declared.Start.{Start}

abbrev pub Queue : Type 0
Queue = List Message

-- the greatest counter
unfoldable pub clock : Queue → ℕ
clock q = top (λ m. m.counter) q

-- the last counter of post r, and its last stamp
unfoldable pub last : ℕ → Queue → ℕ
last r q = top (λ m. m.counter) (keep (by r) q)

abbrev pub last_stamp : ℕ → Queue → ℕ
last_stamp r q = stamp_of (last r q) r

-- the floor: the least last stamp of the other posts; above every stamp where there is none
abbrev pub floor_of : Start → Queue → ℕ
floor_of st q = least_to st.posts st.own (2 ^ 40) (λ r. last_stamp r q)

-- at or below the floor (`heard-floor`): the last stamp of every other post is at or above it
unfoldable pub heard : Start → Queue → Message → Bool
heard st q m = all_to st.posts (λ r. eqb r st.own || leb (stamp m) (last_stamp r q))

-- the takes and returns that are settled, and those that wait
unfoldable pub settled : Start → Queue → List Message
settled st q = keep (λ m. counted m && heard st q m) q

unfoldable pub waiting : Start → Queue → List Message
waiting st q = keep (λ m. counted m && not (heard st q m)) q

abbrev pub takes : Start → Queue → List Message
takes st q = keep is_take (settled st q)

-- a take's number: the settled takes up to and including it
abbrev pub number : Start → Queue → Message → ℕ
number st q m = upto stamp (takes st q) m

-- numbers up to this are granted: the places and the settled returns
unfoldable pub room : Start → Queue → ℕ
room st q = st.places + many is_return (settled st q)

-- the grant rule: there is a place for a settled take
unfoldable pub free : Start → Queue → Message → Bool
free st q m = leb (number st q m) (room st q)

-- the own takes that are granted
unfoldable pub grants : Start → Queue → List Message
grants st q = keep (λ m. by st.own m && free st q m) (takes st q)

-- the own last take or return; a return before there is one
unfoldable pub latest : Start → Queue → Message
latest st q = final (keep (λ m. by st.own m && counted m) q) (msg return_kind st.own 0)

-- 0 idle, 1 take not yet settled, 2 numbered and waiting, 3 holding
unfoldable pub phase : Start → Queue → ℕ
phase st q =
    let m = latest st q in
    cond (is_take m) (cond (heard st q m) (cond (free st q m) 3 2) 1) 0

-- the number of the own take once it is settled
unfoldable pub order : Start → Queue → ℕ
order st q = cond (is_take (latest st q) && heard st q (latest st q)) (number st q (latest st q)) 0

-- places and settled returns less settled takes
unfoldable pub value : Start → Queue → ℤ
value st q = pos (st.places + many is_return (settled st q)) -ℤ pos (length (takes st q))

-- another post whose last stamp is below the own unsettled take
unfoldable pub lacks : Start → Queue → ℕ → Bool
lacks st q r = eqb (phase st q) 1 && (not (eqb r st.own) && ltb (last_stamp r q) (stamp (latest st q)))
