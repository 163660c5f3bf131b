-- The manager's test: "The same feeder on the same night must show the same posts in the same order."
-- What is stated, for every input; `proofs/` proves it.
use Rattle.std.specs.Prelude.{List, ◌≡◌, ℕ}
use Rattle.bench.specs.{Bench.{unfed}, Output.{output}, Session.{Session}}
use Rattle.plans.specs.{Plan.{basic, full}, Output.{output_over}}

-- the bench writes what posts with short records say
abbrev pub BenchIsBasic : Type 0
BenchIsBasic = (input : List ℕ) → output input ≡ output_over basic input

-- and that is what posts with full queues say
abbrev pub SamePosts : Type 0
SamePosts = (input : List ℕ) → output input ≡ output_over full input

-- so does a new bench that is fed the input piece by piece, however it is cut and whatever buffers of at least 64 bytes are lent
abbrev pub HoweverCut : Type 0
HoweverCut = (input written : List ℕ) → Session unfed input written → written ≡ output_over full input
