-- What the table of refusals looks at, in a post that keeps a short record and in one that keeps its full queue.
use Rattle.std.specs.Prelude.{Bool, ℕ}
use Rattle.frame.specs.{declared.Message.{Message}, Message.{counted}}
use Rattle.calls.specs.declared.Start.{Start}

pub record View : Type 0 where
  pub start : Start
  pub clock : ℕ
  pub phase : ℕ
  -- of each post: its last counter, and how many of its messages wait
  pub last : ℕ → ℕ
  pub waits : ℕ → ℕ

-- whether a message that comes in is acknowledged
unfoldable pub acks : View → Message → Bool
acks v m = counted m
