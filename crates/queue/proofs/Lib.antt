-- Why demand 3 holds of feeders of full queues.
pub mod Good  -- what every queue has, whatever calls were made
pub mod Changes  -- what a call does to a queue; from here on no byte and no row is looked at
pub mod Parts  -- .. to what a test keeps of it
pub mod Clocks  -- .. to its clock and last counters
pub mod Heard  -- heard and settled, by what they say of a message
pub mod Floors  -- .. and what is at or below the floor
pub mod Grow  -- what is settled stays, and so do numbers and grants
pub mod Granted  -- the granted takes, the latest own message, the phase
pub mod Phases  -- phase and order number, case by case
pub mod Waiting  -- what waits, and what of its own
pub mod Settling  -- what a call settles
mod Marks  -- a call adds to the granted what it marks
mod Holding  -- as many grants as returns, and one more while it holds
pub mod Grants  -- one grant more exactly after a mark
pub mod Totals  -- how many a queue holds
pub mod Fitting  -- a queue that calls made fits a short record
mod Agree  -- first part of demand 3: one order
mod Places  -- second part: never more than the places
mod Cleared  -- third part: once all is accepted
pub mod Runs  -- runs of takes, returns and deliveries
pub mod Demand3  -- the proofs of specs/Demand3
mod Night  -- the proof of specs/Night
