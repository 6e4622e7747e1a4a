-- Lemmas on pools, a line a file.
--   Answering: what the clauses of a table's calls say
--   RowTotals: how many lengths count for each row of a table
--   Given: the block that a pool gave has just the words of each
--   Heaps: several heaps stay heaps for the parts of a table
--   OnParts: what a call on one part leaves
--   Opened: new heaps for the parts of a table
--   PoolKept: a pool stays one through its calls
--   PoolTells: what the answers of a pool tell
--   Served: a request that has a place finds room
--   TableKept: a table stays one through its calls
--   TableTells: what the answers of a table tell
--   WholeTable: the rows of the whole table, and the part that has each
pub mod Answering
pub mod RowTotals
pub mod Given
pub mod Heaps
pub mod OnParts
pub mod Opened
pub mod PoolKept
pub mod PoolTells
pub mod Served
pub mod TableKept
pub mod TableTells
pub mod WholeTable
