-- A plan is a kind of post: how one starts, what a call does to it, and which phase it is in.
use Rattle.std.specs.Prelude.{[], ℕ}
use Rattle.calls.specs.{declared.Start.{Start}, Replies.{Call, Answer}}
use Rattle.post.specs.declared.Post.{Post}
use Rattle.queue.specs.{Queue.{Queue, phase}, Calls.{on_queue}}
use Rattle.beside.specs.OnRecord.{on_record, started_post}

pub record Plan (S : Type 0) : Type 0 where
  pub begins : Start → S
  pub step : S → Call → Answer S
  pub phase : S → ℕ

-- posts that keep the short record
unfoldable pub basic : Plan Post
basic = record { begins = started_post; step = on_record; phase = λ p. p.phase }

-- posts that keep what they were started with, and every message
pub record Keeper : Type 0 where
  pub start : Start
  pub queue : Queue

abbrev pub keeping : Start → Queue → Keeper
keeping st q = record { start = st; queue = q }

unfoldable pub full : Plan Keeper
full = record {
  begins = λ st. keeping st [];
  step = λ k c. let a = on_queue k.start k.queue c in record { next = keeping k.start a.next; reply = a.reply };
  phase = λ k. phase k.start k.queue;
}
