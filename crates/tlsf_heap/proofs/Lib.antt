-- The names that most proofs cite, passed on from one place.
mod Common
-- The lemmas, by the folder of what they are on.
pub mod lemmas
-- How many blocks are live after each call, and that a counted heap stays counted.
pub mod LiveBlocks
