-- Laws that know nothing of posts.
pub mod Tests  -- &&, ||, not, and a case split that keeps the test
pub mod Ladders  -- tables of tests, as code goes through them
pub mod EveryLaws  -- tests that all pass
pub mod RefusalLaws  -- what a table refuses, and what it does not
pub mod BigLaws  -- numbers as bytes
pub mod LaidLaws  -- a list over a part of another
pub mod StoreLaws  -- runs of stores
pub mod SetLaws  -- one number of a list raised
pub mod BelowLaws  -- tests and sums over the numbers below n
pub mod SumLaws  -- sums changed at a place, bounded
pub mod LeastLaws  -- the least but one
pub mod BitLaws  -- sets as bits
pub mod IntLaws  -- differences
pub mod ListLaws  -- lists: members, tests, beginnings
pub mod CountLaws  -- how many pass a test
pub mod Counting  -- .. up to a member
pub mod PlaceLaws  -- .. by places
pub mod RisingLaws  -- lists that rise by a key
pub mod LeadingLaws  -- what comes before the first key above a number
pub mod ScanLaws  -- one turn of a loop
pub mod SearchLaws  -- the first that passes
pub mod OneLaws  -- what equals a definition is one
