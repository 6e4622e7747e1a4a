-- Slots by which values come home from other threads.

-- The ends of the slots, as contracts see them.
pub mod Ends
-- The content of each slot, and the knowledge of each seat of it.
pub mod Slots
-- The knowledge that each step gives the seat that makes it.
pub mod Steps
