pub use Rattle.tlsf_calls.specs.Bytes
pub use Rattle.tlsf_calls.specs.Entries
pub use Rattle.tlsf_calls.specs.Numbers
pub use Rattle.tlsf_heap.specs.ledger.Grants
-- Each file says in its first line what it is on.
mod Common
pub mod worker
pub mod model
pub mod histories
pub mod lanes
pub mod queues
pub mod scripts
pub mod replays
pub mod jobs
pub mod races
pub mod race_laws
