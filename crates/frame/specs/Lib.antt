-- A message and its frame.
pub mod Message  -- kinds and stamps
pub mod Kind  -- the kinds by their numbers
pub mod Refusal  -- the refusals by their numbers
pub mod Frame  -- bytes, and what reading and writing give
pub mod Demand2  -- frames read one way and write one way
pub mod Unique  -- two results that meet a promise are equal
