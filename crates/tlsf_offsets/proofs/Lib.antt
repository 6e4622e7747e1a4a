-- The lemmas of this crate, a line a file.
--   Spans: what that says of spans
pub mod Spans
