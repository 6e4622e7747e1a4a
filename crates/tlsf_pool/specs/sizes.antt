-- How large a table may be.
pub mod Limits
-- Ways to cut a table of kinds.
pub mod Splits
-- Tables whose rows go from short to long.
pub mod Rising
-- Definitions that only clauses of private functions cite.
pub mod Cheapest
