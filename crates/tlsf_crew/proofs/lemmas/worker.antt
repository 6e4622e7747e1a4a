-- Lemmas on a worker, whatever its ports, and on its drains.
pub mod Halves
pub mod OwnHeaps
pub mod PortsKept
pub mod SameParts
pub mod Slices
pub mod Slots
pub mod SourceTurns
pub mod StandingEnd
pub mod Works
