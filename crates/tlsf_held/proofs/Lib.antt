-- The lemmas of this crate, a line a file.
--   Common: the names that most proofs cite, passed on from one place
--   Lent: loans as an inventory
--   Entries: what entries tell one after the other, by the calls on the heap
--   LeastBounds: what is tallied is the least bounds of the calls that the entries tell
--   RowEntries: what is accounted and told of rows, by the calls on the heap
--   MostWanted: what is accounted is the most words that they want at once
--   LeastRows: it is the least that the calls keep within
--   FirstFew: the first list of rows that is short enough
--   TablesTold: it is the table that they keep to
--   StepsTold: what steps tell of a band of lengths is the row that the calls come to
--   MergesTold: so a table that is merged by steps is that of the calls, merged for the fewest words
--   RowWords: no region has room for very many blocks
--   Divided: how a row of places is divided by the fewest words
--   MergedLines: their lines, one worker after the other
--   Costs: the words of the parts of a table, as they are kept
--   Measured: what is told of a run's entries is what the trace asks for
--   Enough: the words for mixed sizes are enough
--   KindsEnough: and so are those of a table of kinds
--   PoolsEnough: pools of a merged table have a place for each request
--   LeastFound: the least words, found by replays
mod Common
pub mod Lent
pub mod Entries
pub mod LeastBounds
pub mod RowEntries
pub mod MostWanted
pub mod LeastRows
pub mod FirstFew
pub mod TablesTold
pub mod StepsTold
pub mod MergesTold
pub mod RowWords
pub mod Divided
pub mod MergedLines
pub mod Costs
pub mod Measured
pub mod Enough
pub mod KindsEnough
pub mod PoolsEnough
pub mod LeastFound
