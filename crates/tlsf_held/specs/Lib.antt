-- Definitions that clauses of public functions cite: the lines, and their meaning.
pub mod HeldLines
pub mod KindLines
pub mod KindTables
pub mod Least
pub mod Loans
pub mod Measures
pub mod Merges
pub mod Rows
-- Definitions that only clauses of private functions cite.
pub mod Divisions
pub mod RowTallies
pub mod Steps
pub mod Tallies
