-- Why texts are put as promised.
pub mod Digits  -- digits from the last to the first
pub mod Putting  -- texts one after the other are one text
mod Values  -- digits stand for their number
pub mod Unique  -- two results that meet a promise are equal
