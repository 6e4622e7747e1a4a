-- The lemmas of this crate, a line a file.
--   Common: the names that most proofs cite, passed on from one place
--   Folding: whole rows are no more words than there are
--   Telling: what a text tells, with more after it
mod Common
pub mod Folding
pub mod Telling
