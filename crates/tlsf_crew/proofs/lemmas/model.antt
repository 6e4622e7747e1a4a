-- Lemmas on worlds and on lists of events.
pub mod ChunkReads
pub mod Edits
pub mod Emptied
pub mod EventSteps
pub mod InParts
pub mod OneEvent
pub mod HeapReply
pub mod Sums
