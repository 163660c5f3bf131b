-- A night over any kind of post.
pub mod Plan  -- a kind of post: the short record, the full queue
pub mod Night  -- what a command does
pub mod Output  -- the whole output for a whole input
pub mod Same  -- what is stated of the two
