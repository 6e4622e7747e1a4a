-- The bytes that a chunk holds.
pub mod Bytes
-- Facts that entries tell by themselves.
pub mod Entries
-- The numbers that stand for the refusals of a worker.
pub mod Numbers
