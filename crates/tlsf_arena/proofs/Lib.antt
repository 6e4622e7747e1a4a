mod Common
mod Walking
pub mod Books
pub mod Buffers
pub mod Cell
pub mod Effects
pub mod Holding
pub mod Lodging
pub mod Mapped
pub mod Maps
pub mod Named
pub mod Resizes
pub mod Results
pub mod Rights
pub mod Rooms
pub mod SameBlock
pub mod Searching
pub mod Spread
pub mod Stretches
pub mod Taken
pub mod UnitCases
pub mod Ways
pub mod Worn
