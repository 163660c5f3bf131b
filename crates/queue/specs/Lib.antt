-- The full queue, and feeders of posts that keep one.
pub mod Queue  -- all that is worked out from the messages
pub mod Calls  -- what each call gives back and leaves
pub mod Feeder  -- posts on one feeder, and runs
pub mod Demand3  -- what is stated of them
pub mod Night  -- 01's bench night, in which all is accepted
