-- A yard over lanes: its workers, its opening, settling and draining.
pub mod LaneCalls
pub mod LaneNotes
pub mod LaneOpening
pub mod LaneSteps
pub mod LaneTurns
pub mod LaneWorkers
pub mod NewLanes
pub mod Ready
pub mod Settle
pub mod Yard
