-- Document 01's bench night as acts, and the one message that it leaves on the way delivered: then all is accepted everywhere.
use Rattle.std.specs.Prelude.{List, [], ◌∷◌, ◌≡◌}
use Rattle.calls.specs.declared.Own.TheVariants.{Taking, Returning}
use Rattle.queue.specs.{Feeder.{Line, Feeder, fresh, Act, own_at, deliver, run, returns_sent, granted}, Demand3.{Cleared}}

abbrev pub two : Line
two = record { posts = 2; feeder = 0; places = 1 }

-- T 0, D 0 1, D 1 0, T 0, T 1, D 1 0, D 0 1, R 0, D 0 1, and then D 1 0
abbrev pub acts : List Act
acts =
    own_at Taking 0 ∷ deliver 0 1 ∷ deliver 1 0 ∷ own_at Taking 0 ∷ own_at Taking 1 ∷ deliver 1 0 ∷ deliver 0 1 ∷ own_at Returning 0
    ∷ deliver 0 1 ∷ deliver 1 0 ∷ []

abbrev pub night : Feeder
night = run two fresh acts

-- so the third part of demand 3 speaks of real runs: both queues are the same, 2 takes are granted, 1 return is sent
pub record ClearedNight : Type 0 where
  pub cleared : Cleared two night
  pub same : night 0 ≡ night 1
  pub two-granted : granted two night ≡ 2
  pub one_returned : returns_sent two night ≡ 1
