-- The bench: a night in, its answers out.
pub mod Text  -- texts as bytes
pub mod Lines  -- which header or command a line is
pub mod Night  -- what a command does
pub mod Bench  -- the bench, byte by byte
pub mod Output  -- the whole output for a whole input
pub mod Session  -- feeding piece by piece
pub mod Inside  -- what functions inside the crate promise each other
pub mod Unique  -- two results that meet a promise are equal
