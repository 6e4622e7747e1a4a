-- Lemmas on yards over queues.
pub mod QueueDrains
pub mod QueueKept
pub mod QueueOpened
pub mod QueueSettled
pub mod QueueWorlds
pub mod QueueYards
