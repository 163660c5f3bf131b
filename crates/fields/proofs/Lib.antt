-- Why fields load and store as promised.
mod Lying  -- where a field lies
mod Eight  -- a field as the last of 8 bytes
pub mod FieldLaws  -- what is stored is loaded back, and nothing else changes
pub mod Rows  -- fields one after the other
pub mod Unique  -- two results that meet a promise are equal
