-- A message: its kind and its stamp. All crates cite these.
use Rattle.std.specs.Prelude.{Bool, ◌&&◌, ◌||◌, ℕ, ◌+◌, ◌*◌, leb, eqb}
use Rattle.frame.specs.declared.Message.{Message}

-- the message of kind k that post p sends with counter c
abbrev pub msg : ℕ → ℕ → ℕ → Message
msg k p c = record { kind = k; sender = p; counter = c }

-- no message
abbrev pub blank : Message
blank = msg 0 0 0

-- kinds: a take is 1, a return 2, an acknowledgment 3
abbrev pub take_kind : ℕ
take_kind = 1

abbrev pub return_kind : ℕ
return_kind = 2

abbrev pub ack_kind : ℕ
ack_kind = 3

abbrev pub is_take : Message → Bool
is_take m = eqb m.kind take_kind

abbrev pub is_return : Message → Bool
is_return m = eqb m.kind return_kind

-- takes and returns are what is settled and counted
abbrev pub counted : Message → Bool
counted m = is_take m || is_return m

-- the kinds that a frame knows
abbrev pub known : ℕ → Bool
known k = leb take_kind k && leb k ack_kind

-- counters go from 1 to this
abbrev pub last_counter : ℕ
last_counter = 4294967295

-- a stamp as one number, which orders by counter and then by post (`stamp-order`)
abbrev pub stamp_of : ℕ → ℕ → ℕ
stamp_of counter post = 256 * counter + post

abbrev pub stamp : Message → ℕ
stamp m = stamp_of m.counter m.sender

-- sent by post p
abbrev pub by : ℕ → Message → Bool
by p m = eqb m.sender p

-- a take, a return of post p
abbrev pub own_take : ℕ → Message → Bool
own_take p m = by p m && is_take m

abbrev pub own_return : ℕ → Message → Bool
own_return p m = by p m && is_return m
