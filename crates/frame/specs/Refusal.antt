-- The refusals of document 01's table by their numbers.
use Rattle.std.specs.Prelude.{ℕ, Result, Ok, Err}
use Rattle.frame.specs.declared.refusal.Refusal.{Refusal}
use Rattle.frame.specs.declared.refusal.Refusal.TheVariants.{Record, Buffer, Length, Mark, Version, Feeder, Kind, Sender, Counter, Turn, Spent, Waiting, Take, Return, Nothing, Command, End}

abbrev pub number : Refusal → ℕ
number Record = 1
number Buffer = 2
number Length = 3
number Mark = 4
number Version = 5
number Feeder = 6
number Kind = 7
number Sender = 8
number Counter = 9
number Turn = 10
number Spent = 11
number Waiting = 12
number Take = 13
number Return = 14
number Nothing = 15
number Command = 16
number End = 17

-- the number that a result is given back with: 0 where it is done
abbrev pub number_in : {A : Type 0} → Result A Refusal → ℕ
number_in (Ok a) = 0
number_in (Err r) = number r
