-- Why the record stays beside the queue.
mod Demand1  -- the proof of specs/Demand1
mod Listed  -- a list of the values of a function
mod ImageParts  -- the record of a queue, part by part, and its view
mod ImageSound  -- .. is sound
mod Counted  -- settled, it is the record of the later queue
mod Steps  -- each call brings it to the record of the queue after it
pub mod Answers  -- .. and answers as the queue does
mod Inquiries  -- value and missing
pub mod Starts  -- a start gives the record of the empty queue
pub mod Demand2  -- the proofs of specs/Demand2
mod Tells  -- what a reply tells of the queue after it
mod Boards  -- boards stay beside queues, act by act
mod RecordsAndBytes  -- the proof of specs/Records
mod Histories  -- what a board wrote and accepted, call after call, tells its full queue
mod LastTake  -- a board's granted takes are the last takes written by its marked calls
mod OneBoard  -- what is seen of a board is what its full queue says
mod Demand3  -- the proof of specs/Demand3
mod AcceptedFrames  -- an accepted frame is the only way to write its message
mod NightsHold  -- the nights, by computation
