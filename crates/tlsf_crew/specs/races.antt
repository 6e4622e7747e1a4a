-- The result of a race: the records of its workers, and how they fit together.
pub mod LaneTasks
pub mod QueueRace
pub mod QueueTasks
pub mod Race
pub mod Rooms
