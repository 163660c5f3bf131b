-- Why frames read one way and write one way.
pub mod FrameFields  -- the fields of a message's frame
pub mod Frames  -- what is written reads back, and in one way only
mod Stored  -- the fields stored one after the other are the frame
mod ReadLaws  -- what reading gives, by its tests
mod Stamps  -- the order of stamps
pub mod Refusals  -- a result is told by its number
pub mod Unique  -- two results that meet a promise are equal
