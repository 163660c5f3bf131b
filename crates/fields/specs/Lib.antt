pub mod Field
pub mod Unique  -- two results that meet a promise are equal
