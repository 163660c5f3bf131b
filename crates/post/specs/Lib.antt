-- The short record: what it is, when it is sound, and what each call gives back and leaves.
pub mod Record  -- its fields, the floor, how it is made
pub mod Settle  -- what settles, and the grant rule
pub mod Sound  -- document 01's rules, one by one
pub mod Calls  -- every call, refused or not
pub mod Inside  -- what functions inside the crate promise each other
pub mod Unique  -- two results that meet a promise are equal
