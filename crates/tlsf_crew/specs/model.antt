-- The world that a yard shows, one step of it, and what a list of events comes to.
pub mod Heaps
pub mod Opening
pub mod OwnReplies
pub mod QueueProgress
pub mod Sums
pub mod Targets
pub mod Progress
pub mod World
