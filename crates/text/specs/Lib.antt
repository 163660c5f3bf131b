-- Text in lent bytes.
pub mod Decimal  -- numbers as decimal text
pub mod Puts  -- a text put from a place on
pub mod Unique  -- two results that meet a promise are equal
