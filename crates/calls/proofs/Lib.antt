pub mod Ranges  -- what start numbers in range are
pub mod Passing  -- what a call that no row refuses was given
pub mod Unique
