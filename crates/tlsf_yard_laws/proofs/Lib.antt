-- Each file says in its first line what it is on.
mod Common
pub mod AloneDrains
pub mod FairEvents
pub mod FairExample
pub mod FairLists
pub mod Few
pub mod HeapNames
pub mod LivePosts
pub mod Moments
pub mod NamesKept
pub mod NoStale
pub mod PostsKept
pub mod RaceRecords
pub mod Shares
pub mod ShortLanes
pub mod Told
pub mod Turns
