-- What the code works out is what the definitions say.
pub mod Passed  -- what a call that nothing refuses was given
pub mod Rules  -- the rules, from what the functions that test them say
pub mod Looking  -- the look over the slots
pub mod Rows  -- the rows of receive
pub mod Inserting  -- a message put in its place
pub mod Leaving  -- what leaves the slots
pub mod Remaking  -- the record that the code makes, as the definitions make it
pub mod Answering  -- the answers, from what their parts give
pub mod Lacking  -- the set of missing posts
