-- Every call hands a sound record back sound.
pub mod Raised  -- last counters that rose
pub mod Remade  -- with these and one message more, once it is settled
pub mod Calls  -- each call, refused or not
