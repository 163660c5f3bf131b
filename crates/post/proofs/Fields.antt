-- What the fields of a record hold.
pub mod Shape  -- lengths of rows and a clock of four bytes, by the code's types
pub mod Above  -- the own next stamp is above every other
pub mod Floors  -- what is at or below the floor; no call lowers it
pub mod Most  -- at most 58 wait, and who stands lowest never meets 12
pub mod Values  -- the counts are small, and the value is near zero
