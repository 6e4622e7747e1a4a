-- The meaning of a picture of heaps.
pub mod Told
-- The bounds of rows and characters, which keep sums in range. This serves the contracts of private functions alone.
pub mod Layouts
