-- Why the calls meet their promises, by subject; beside these, a folder for each module of the code with the proofs of its functions.
pub mod Fields  -- what the fields of a record hold
pub mod Sound  -- the rules of a sound record, one by one
pub mod Own  -- a post's own messages among the waiting
mod Settle  -- what settling does to a sound record
pub mod Kept  -- every call hands a sound record back sound
mod Works  -- what the code works out is what the definitions say
pub mod Unique  -- two results that meet a promise are equal
