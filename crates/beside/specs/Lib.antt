-- The short record beside the full queue.
pub mod Image  -- the record that a queue comes to
pub mod OnRecord  -- the calls over the record, told in the terms of both
pub mod Tells  -- what can be read off a reply
pub mod Demand1  -- each refusal exact, and nothing changed by it
pub mod Demand2  -- the record answers as the queue does
pub mod Records  -- demand 3 over records and bytes
pub mod Demand3  -- demand 3 said of boards, with any calls
pub mod Nights  -- document 01's nights P1 to P10
