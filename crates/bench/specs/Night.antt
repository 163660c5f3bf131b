-- A night: the records, the messages sent, and how far each post has read of each other's. What a command does to it.
use Rattle.std.specs.Prelude.{Bool, false, cond, ◌&&◌, List, [], ◌∷◌, map, ℕ, ◌+◌, ◌*◌, leb, ltb, eqb, Option, Some, None, get_or, take, drop, replicate, set}
use Rattle.laws.specs.Search.{from}
use Rattle.frame.specs.{declared.Message.{Message}, Message.{blank, by}, Frame.{size, fields_of, bytes_after}}
use Rattle.calls.specs.{Start.{starting}, declared.Own.{Own}, declared.Own.TheVariants.{Taking, Returning}}
use Rattle.post.specs.{declared.Post.{Post}, Calls.{AnswerTold, Outcome, started, spoke, received}}
use Rattle.bench.specs.{declared.Night.{Night}, declared.lines.Command.{Command}}
use Rattle.bench.specs.declared.lines.Command.TheVariants.{Take, Return, Deliver}

-- ---- calls on one post

-- zero bytes are lent, as many as a frame has
abbrev pub lent : List ℕ
lent = replicate size 0

-- a call's answer, and the message in the lent bytes after it
pub record Called : Type 0 where
  pub answer : AnswerTold
  pub message : Message

abbrev pub called : Outcome → Called
called o = record { answer = o.gives; message = (fields_of o.leaves).message }

-- a take or a return
unfoldable pub speaks : Own → Post → Called
speaks o p = called (spoke o p lent)

-- the frame of m arrives
unfoldable pub receives : Post → Message → Called
receives p m = called (received p (bytes_after lent 0 m) lent)

-- ---- the night

-- post p of N on feeder 0 with K places; from N on, what a refused start gives
unfoldable pub opened : ℕ → ℕ → ℕ → Post
opened n k p = (started (starting n p 0 k)).post

unfoldable pub begun : ℕ → ℕ → Night
begun n k = record { posts = map (opened n k) (from 0 16); sent = replicate 256 blank; count = 0; read = replicate 256 0 }

abbrev pub post_of : Night → ℕ → Post
post_of s p = get_or s.posts p (opened 0 0 0)

-- post p's record is the one handed back, and what was written is sent
unfoldable pub handed_back : Night → ℕ → Called → Night
handed_back s p c =
    let sends = c.answer.wrote && ltb s.count 256 in
    record {
      posts = set s.posts p c.answer.post;
      sent = cond sends (set s.sent s.count c.message) s.sent;
      count = cond sends (s.count + 1) s.count;
      read = s.read;
    }

-- the place of the first message of post p in a list that starts at place i; 256 where there is none
unfoldable pub seek : ℕ → ℕ → List Message → ℕ
seek p i [] = 256
seek p i (m ∷ ms) = cond (by p m) i (seek p (i + 1) ms)

-- the place of the next message of p that q has not accepted
unfoldable pub next_of : Night → ℕ → ℕ → ℕ
next_of s p q = let i = get_or s.read (16 * p + q) 0 in seek p i (drop i (take s.count s.sent))

-- q has read of p up to place i
unfoldable pub passed : Night → ℕ → ℕ → ℕ → Night
passed s p q i = record { posts = s.posts; sent = s.sent; count = s.count; read = set s.read (16 * p + q) (i + 1) }

-- ---- commands

-- the night after a command, and what the command gave back
pub record Ran : Type 0 where
  pub night : Night
  pub number : ℕ
  pub granted : Bool

abbrev pub refused : Night → ℕ → Ran
refused s n = record { night = s; number = n; granted = false }

abbrev pub answered : Night → Called → Ran
answered s c = record { night = s; number = c.answer.number; granted = c.answer.granted }

-- q is offered the message at place i; refused, it stays next
unfoldable pub offered : Night → ℕ → ℕ → ℕ → Ran
offered s p q i =
    let c = receives (post_of s q) (get_or s.sent i blank) in
    answered (cond (eqb c.answer.number 0) (passed (handed_back s q c) p q i) (handed_back s q c)) c

-- what a line asks for; what is no command is refused
unfoldable pub ran : Night → Option Command → Ran
ran s (Some (Take p)) = let c = speaks Taking (post_of s p) in answered (handed_back s p c) c
ran s (Some (Return p)) = let c = speaks Returning (post_of s p) in answered (handed_back s p c) c
ran s (Some (Deliver p q)) = cond (leb 256 (next_of s p q)) (refused s 15) (offered s p q (next_of s p q))
ran s None = refused s 16
