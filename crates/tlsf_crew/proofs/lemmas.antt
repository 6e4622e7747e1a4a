-- The lemmas, by the folder of what they are on.
pub mod worker
pub mod model
pub mod histories
pub mod lanes
pub mod queues
pub mod scripts
pub mod replays
pub mod jobs
pub mod races
pub mod race_laws
