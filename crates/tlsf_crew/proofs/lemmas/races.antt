-- Lemmas on races.
pub mod LaneGathering
pub mod LastDrains
pub mod QueueAgree
pub mod QueueGathering
pub mod QueueLast
pub mod QueueRaces
pub mod QueueTakes
pub mod RecordRooms
pub mod TwoRecords
pub mod WholeRace
