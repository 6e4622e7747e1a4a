-- The lemmas of this crate, a line a file.
--   Common: the names that most proofs cite, passed on from one place
--   Labels: the labels of blocks, one event after another
--   Walking: a walk over the blocks of a heap by their places
--   Maps: maps of heaps, one heap after another
--   Yards: a yard in which one heap was looked at
--   Onward: a page, one moment after another
--   Lines: the points of a heap, one line after another
--   Charts: charts of heaps, one heap after another
--   Telling: what a plot tells of a heap
--   Standings: where a heap stands worst, one point and one heap after another, and where it has most live words
mod Common
pub mod Labels
pub mod Walking
pub mod Maps
pub mod Yards
pub mod Onward
pub mod Lines
pub mod Charts
pub mod Standings
pub mod Telling
