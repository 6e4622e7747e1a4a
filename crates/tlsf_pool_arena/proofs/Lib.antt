-- The lemmas of this crate, a line a file.
--   Common: the names that most proofs cite, passed on from one place
--   UnitWords: units, and the words that requests for them want
mod Common
pub mod UnitWords
--   Kept: an arena of blocks of a fixed size, a new one and what its calls leave
pub mod Kept
--   Mixed: an arena of mixed sizes, and that a request finds room
pub mod Mixed
--   Lent: what is away by a slot
pub mod Lent
--   Idle: the slots by which no block is away, while blocks go out and come home
pub mod Idle
--   Drained: what a drain of all slots comes to
pub mod Drained
--   SlotSteps: each step keeps the rule of the slots by which values come home
pub mod SlotSteps
