-- Lemmas on the laws of races.
pub mod AloneRuns
pub mod CallsTold
pub mod OneRace
pub mod QueueAlone
pub mod QueueRecords
pub mod RecordHistory
pub mod SameDrains
