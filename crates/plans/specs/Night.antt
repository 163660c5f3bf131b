-- A night over any plan: the posts, the messages sent, and how far each post has read of each other's. What a command does to it.
use Rattle.std.specs.Prelude.{Bool, false, cond, ◌&&◌, List, [], ◌∷◌, ◌++◌, ℕ, ◌+◌, leb, eqb, Option, Some, None, get_or, drop}
use Rattle.frame.specs.{declared.Message.{Message}, Message.{blank}, Frame.{fields_of, bytes_after}}
use Rattle.calls.specs.{Start.{starting}, declared.Own.TheVariants.{Taking, Returning}}
use Rattle.calls.specs.Replies.{Call, own_call, receive_call, Told, Reply, told, worth, lacking, Answer}
use Rattle.bench.specs.{declared.lines.Command.{Command}, declared.lines.Command.TheVariants.{Take, Return, Deliver}, Night.{lent, seek}}
use Rattle.plans.specs.Plan.{Plan}

pub record Night (S : Type 0) : Type 0 where
  pub posts : ℕ → S
  pub sent : List Message
  pub read : ℕ → ℕ → ℕ

-- the night after a command, and what the command gave back
pub record Ran (S : Type 0) : Type 0 where
  pub night : Night S
  pub number : ℕ
  pub granted : Bool

-- what a call tells; an inquiry, which no command makes, writes nothing
abbrev pub telling : Reply → Told
telling (told t) = t
telling (worth number value) = record { number = number; wrote = false; granted = false; lent = [] }
telling (lacking number set count) = record { number = number; wrote = false; granted = false; lent = [] }

-- the message in the lent bytes, where one was written
abbrev pub written : Told → List Message
written t = cond t.wrote ((fields_of t.lent).message ∷ []) []

module _ {S : Type 0} where
  -- post p is the one handed back, and what was written is sent
  unfoldable pub handed_back : Night S → ℕ → Answer S → Ran S
  handed_back s p a =
      let t = telling a.reply in
      record {
        night = record { posts = λ r. cond (eqb r p) a.next (s.posts r); sent = s.sent ++ written t; read = s.read };
        number = t.number;
        granted = t.granted;
      }

  -- the place of the next message of p that q has not accepted; 256 where there is none
  unfoldable pub next_of : Night S → ℕ → ℕ → ℕ
  next_of s p q = let i = s.read p q in seek p i (drop i s.sent)

  -- q has read of p up to place i
  unfoldable pub passed : Night S → ℕ → ℕ → ℕ → Night S
  passed s p q i = record { posts = s.posts; sent = s.sent; read = λ a b. cond (eqb a p && eqb b q) (i + 1) (s.read a b) }

  abbrev pub refused : Night S → ℕ → Ran S
  refused s n = record { night = s; number = n; granted = false }

module _ {S : Type 0} (plan : Plan S) where
  -- posts on feeder 0 with K places
  unfoldable pub begun : ℕ → ℕ → Night S
  begun n k = record { posts = λ p. plan.begins (starting n p 0 k); sent = []; read = λ p q. 0 }

  abbrev pub called : Night S → ℕ → Call → Ran S
  called s p c = handed_back s p (plan.step (s.posts p) c)

  -- q is offered the message at place i; refused, it stays next
  unfoldable pub offered : Night S → ℕ → ℕ → ℕ → Ran S
  offered s p q i =
      let r = called s q (receive_call (bytes_after lent 0 (get_or s.sent i blank)) lent) in
      record { night = cond (eqb r.number 0) (passed r.night p q i) r.night; number = r.number; granted = r.granted }

  -- what a line asks for; what is no command is refused
  unfoldable pub ran : Night S → Option Command → Ran S
  ran s (Some (Take p)) = called s p (own_call Taking lent)
  ran s (Some (Return p)) = called s p (own_call Returning lent)
  ran s (Some (Deliver p q)) = cond (leb 256 (next_of s p q)) (refused s 15) (offered s p q (next_of s p q))
  ran s None = refused s 16
