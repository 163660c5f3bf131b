-- When a record is sound: document 01's rules, one definition each, in its order.
use Rattle.std.specs.Prelude.{Bool, not, cond, ◌&&◌, ◌||◌, List, [], ◌∷◌, ℕ, ◌+◌, leb, ltb, eqb, get_or, drop}
use Rattle.laws.specs.{Ladder.{every}, Lists.{all, many, rises}}
use Rattle.laws.specs.Below.{all_to, sum_to}
use Rattle.frame.specs.{declared.Message.{Message}, Message.{counted, stamp, by, own_take, own_return}}
use Rattle.calls.specs.Start.{in_range}
use Rattle.post.specs.{declared.Post.{Post}, Record.{start_of, last_of, waiting_of, floor}, Settle.{free}}

-- phase is 0 to 3
abbrev pub phase_fits : Post → Bool
phase_fits p = leb p.phase 3

-- at most 62 wait
abbrev pub waits_fit : Post → Bool
waits_fit p = leb p.waits 62

-- last counters at numbers N and above are 0
unfoldable pub absent_silent : Post → Bool
absent_silent p = all_to 16 (λ q. ltb q p.posts || eqb (last_of p q) 0)

-- the clock is at least every last counter
unfoldable pub clock_above : Post → Bool
clock_above p = all_to 16 (λ q. leb (last_of p q) p.clock)

-- a waiting message is of a sender below N, a take or return, with a counter from 1 to that sender's last
unfoldable pub fair : ℕ → List ℕ → Message → Bool
fair posts last m = ltb m.sender posts && (counted m && (leb 1 m.counter && leb m.counter (get_or last m.sender 0)))

-- none wait if N = 1
unfoldable pub none_alone : Post → Bool
none_alone p = not (eqb p.posts 1) || eqb p.waits 0

-- a slot is zero
unfoldable pub is_blank : Message → Bool
is_blank m = eqb m.kind 0 && (eqb m.sender 0 && eqb m.counter 0)

-- at most 4 wait from any other sender
unfoldable pub few : Post → ℕ → Bool
few p q = eqb q p.own || leb (many (by q) (waiting_of p)) 4

-- the kind of the last message of post q; k where there is none
unfoldable pub end_kind : ℕ → ℕ → List Message → ℕ
end_kind q k [] = k
end_kind q k (m ∷ ms) = end_kind q (cond (by q m) m.kind k) ms

-- of its own, phase 0 has at most one return, phase 1 exactly one take with at most one return, before it; phases 2 and 3 have none
unfoldable pub own_fits : ℕ → ℕ → ℕ → ℕ → Bool
own_fits phase takes returns end =
    cond (eqb phase 0) (eqb takes 0 && leb returns 1)
    (cond (eqb phase 1) (eqb takes 1 && (leb returns 1 && eqb end 1))
    (eqb takes 0 && eqb returns 0))

unfoldable pub own_few : Post → Bool
own_few p =
    let ms = waiting_of p in
    own_fits p.phase (many (own_take p.own) ms) (many (own_return p.own) ms) (end_kind p.own 0 ms)

-- settled takes + settled returns + waiting messages are at most the sum of the last counters
unfoldable pub sum_fits : Post → Bool
sum_fits p = leb (p.takes + p.returns + p.waits) (sum_to 16 (last_of p))

-- the order number is 0 in phases 0 and 1, and from 1 to the settled takes in 2 and 3; in 3 there is a place for it, in 2 there is none
unfoldable pub order_fits : ℕ → ℕ → ℕ → Bool → Bool
order_fits phase order takes free =
    cond (leb phase 1) (eqb order 0)
    (leb 1 order && (leb order takes && cond (eqb phase 3) free (not free)))

unfoldable pub number_rules : Post → List Bool
number_rules p = in_range (start_of p) ∷ phase_fits p ∷ waits_fit p ∷ absent_silent p ∷ clock_above p ∷ []

-- the second: stamps strictly rising, every one above the floor
unfoldable pub slot_rules : Post → List Bool
slot_rules p =
    all (fair p.posts p.last) (waiting_of p)
    ∷ rises stamp (floor p) (waiting_of p)
    ∷ none_alone p
    ∷ all is_blank (drop p.waits p.slots)
    ∷ all_to p.posts (few p)
    ∷ own_few p
    ∷ []

unfoldable pub count_rules : Post → List Bool
count_rules p = sum_fits p ∷ order_fits p.phase p.order p.takes (free p) ∷ []

unfoldable pub sound : Post → Bool
sound p = every (number_rules p) && (every (slot_rules p) && every (count_rules p))
