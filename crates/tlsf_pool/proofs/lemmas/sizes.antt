-- Lemmas on sizes as numbers, a line a file.
--   Bounds: how far the greatest region goes
--   Cuts: the least way of cutting kinds, from its end
--   Risings: tables whose rows rise, and their parts
--   Sizes: sizes of regions by sums, and how large they get
pub mod Bounds
pub mod Cuts
pub mod Risings
pub mod Sizes
