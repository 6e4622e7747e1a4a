-- Facts about a script's calls on their worker, over lanes and over queues.
pub mod EntryRoom
pub mod Journals
pub mod LaneMoves
pub mod QueueMoves
pub mod Scripts
