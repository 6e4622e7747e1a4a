-- The view of a worker, and the answers and effects of its own calls, releases, takes and drains, whatever its ports.
pub mod Calls
pub mod Drains
pub mod Notes
pub mod Sizes
pub mod Slices
pub mod Workers
