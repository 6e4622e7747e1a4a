-- A list of blocks, without the words of a region.
pub mod blocks
-- The lists of the free blocks.
pub mod lists
-- The words of a region, and the blocks that they show.
pub mod words
-- The answers and effects of the calls.
pub mod calls
-- Names, payloads and words in use over all calls.
pub mod laws
