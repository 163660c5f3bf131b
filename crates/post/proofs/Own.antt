-- A post's own messages among the waiting.
pub mod Messages  -- the number of the own take, the kind of the last
pub mod Takes  -- the own take where it is the only one
pub mod Standing  -- how they stand in each phase
