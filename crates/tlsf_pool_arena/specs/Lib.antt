pub mod Filled
pub mod Given
pub mod MixedUnits
pub mod PoolArenas
pub mod Remotes
-- Slots by which values come home from other threads.
pub mod returns
