-- The rules of a sound record.
pub mod Facts  -- what a sound record has
pub mod Passes  -- a record that has it is sound
pub mod Starts  -- a started record is sound, the all-zero record is not
