-- Lemmas on yards over lanes.
pub mod Across
pub mod LaneByLane
pub mod LaneChanges
pub mod LaneSettled
pub mod LaneSlices
pub mod LaneSlots
pub mod LaneTurns
pub mod LanesOfOne
pub mod NewLanes
pub mod OneEnd
pub mod Pending
pub mod Signed
pub mod YardKept
