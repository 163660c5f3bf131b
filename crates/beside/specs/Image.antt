-- The short record that a full queue comes to: every field is a function of the queue.
use Rattle.std.specs.Prelude.{List, [], ◌∷◌, ℕ, zero, suc}
use Rattle.laws.specs.Lists.{many}
use Rattle.frame.specs.Message.{is_take, is_return}
use Rattle.post.specs.{declared.Post.{Post}, Record.{record_of}}
use Rattle.calls.specs.declared.Start.{Start}
use Rattle.queue.specs.Queue.{Queue, clock, last, settled, waiting, phase, order}

-- f i, f (i + 1), .. : n of them
unfoldable pub list_from : ℕ → ℕ → (ℕ → ℕ) → List ℕ
list_from i zero f = []
list_from i (suc n) f = f i ∷ list_from (suc i) n f

-- the last counters of a queue, by post
abbrev pub lasts : Queue → List ℕ
lasts q = list_from 0 16 (λ r. last r q)

unfoldable pub image : Start → Queue → Post
image st q = record_of st (clock q) (lasts q) (waiting st q) (many is_take (settled st q)) (many is_return (settled st q)) (phase st q) (order st q)
