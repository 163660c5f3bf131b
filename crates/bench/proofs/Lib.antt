-- Why the bench writes what document 01 says.
mod Lengths  -- how long texts are
mod Parsing  -- a line is what is read of it, if that is in range
mod Pages  -- texts written one after the other
mod Kept  -- the first 8 bytes of a line are enough
mod Nights  -- what a command does, from what the code found
mod Turning  -- what a whole line makes of the bench
mod Feeding  -- a turn of feeding, and its end
mod Running  -- pieces and buffers write what the bytes write one by one
mod Reading  -- .. and that is the output of the lines
mod Sessions  -- a whole session
pub mod WholeNights  -- every input, every way to cut it, every buffer
mod Places  -- no written message is dropped
pub mod Fits  -- what is used and written is within what was given
pub mod Unique  -- two results that meet a promise are equal
