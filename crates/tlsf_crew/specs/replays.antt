-- The answers and effects of the steps of a replay.
pub mod ReplaySteps
