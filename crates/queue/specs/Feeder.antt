-- A feeder: posts 0 to N - 1, each by its full queue, and runs of takes, returns and deliveries.
use Rattle.std.specs.Prelude.{not, cond, ◌&&◌, List, [], ◌∷◌, ℕ, ◌<◌, T, ltb, eqb, length, drop, replicate}
use Rattle.laws.specs.{Lists.{keep, many}, Below.{sum_to, count_to}}
use Rattle.frame.specs.{declared.Message.{Message}, Message.{is_return, by}, Frame.{size, frame}}
use Rattle.calls.specs.{declared.Start.{Start}, Start.{in_range}, declared.Own.{Own}, Replies.{Call, own_call, receive_call}}
use Rattle.queue.specs.{Queue.{Queue, grants, phase}, Calls.{on_queue}}

-- what the posts of a feeder are started with alike
pub record Line : Type 0 where
  pub posts : ℕ
  pub feeder : ℕ
  pub places : ℕ

-- each under its own number
abbrev pub start : Line → ℕ → Start
start L p = record { posts = L.posts; own = p; feeder = L.feeder; places = L.places }

-- N, K and the feeder are in range, for each post alike
abbrev pub LineFits : Line → Type 0
LineFits L = (p : ℕ) → p < L.posts → T (in_range (start L p))

-- each post's queue, by its number
abbrev pub Feeder : Type 0
Feeder = ℕ → Queue

abbrev pub fresh : Feeder
fresh p = []

-- what post p sent, what post q has accepted of it, and what q has still to accept
abbrev pub sent : Feeder → ℕ → List Message
sent s p = keep (by p) (s p)

abbrev pub had : Feeder → ℕ → ℕ → List Message
had s p q = keep (by p) (s q)

unfoldable pub pending : Feeder → ℕ → ℕ → List Message
pending s p q = drop (length (had s p q)) (sent s p)

-- an own call at p, so a take or a return; the next message of p offered to q
pub data Act : Type 0 where
  own_at : Own → ℕ → Act
  deliver : ℕ → ℕ → Act

-- the call that an act comes to: one at one post, or none
pub data Made : Type 0 where
  none : Made
  at_post : ℕ → Call → Made

-- the buffer that each call is lent
abbrev pub buffer : List ℕ
buffer = replicate size 0

abbrev pub offered : Line → ℕ → List Message → Made
offered L q [] = none
offered L q (m ∷ ms) = at_post q (receive_call (frame L.feeder m) buffer)

unfoldable pub comes_to : Line → Feeder → Act → Made
comes_to L s (own_at o p) = cond (ltb p L.posts) (at_post p (own_call o buffer)) none
comes_to L s (deliver p q) = cond (ltb p L.posts && (ltb q L.posts && not (eqb p q))) (offered L q (pending s p q)) none

-- post p has the queue q, the others theirs
abbrev pub with_queue : Feeder → ℕ → Queue → Feeder
with_queue s p q r = cond (eqb r p) q (s r)

abbrev pub after_made : Line → Feeder → Made → Feeder
after_made L s none = s
after_made L s (at_post p c) = with_queue s p (on_queue (start L p) (s p) c).next

unfoldable pub run : Line → Feeder → List Act → Feeder
run L s [] = s
run L s (a ∷ acts) = run L (after_made L s (comes_to L s a)) acts

-- over all posts: returns sent, takes granted, posts in phase 3
unfoldable pub returns_sent : Line → Feeder → ℕ
returns_sent L s = sum_to L.posts (λ p. many is_return (sent s p))

unfoldable pub granted : Line → Feeder → ℕ
granted L s = sum_to L.posts (λ p. length (grants (start L p) (s p)))

unfoldable pub holding : Line → Feeder → ℕ
holding L s = count_to L.posts (λ p. eqb (phase (start L p) (s p)) 3)
