-- Lemmas on what entries tell.
pub mod AllEntries
pub mod DrainEntries
pub mod Fronts
pub mod JoinedEntries
pub mod LaneCalls
pub mod NamesMeant
pub mod Nowhere
pub mod OwnCalls
