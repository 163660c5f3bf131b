-- What settling does.
pub mod OwnStays  -- to the own messages and the phase
pub mod Settles  -- to all the rules
