-- What every post is, however it keeps its messages: what it is started with, what it is asked, what refuses.
pub mod Start  -- numbers in range
pub mod Own  -- the calls by which a post sends, a row each
pub mod Replies  -- calls, and what each tells
pub mod View  -- what the table looks at
pub mod Table  -- the refusals, in the order of the tests
pub mod Unique  -- two results that meet a promise are equal
