-- What definitions are written with.
pub mod Ladder  -- tables of refusals
pub mod Big  -- numbers as bytes
pub mod Lists  -- lists
pub mod Below  -- over the numbers below n
pub mod Search  -- looking through lists
pub mod One  -- a promise that leaves no choice
