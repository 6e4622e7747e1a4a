-- The lemmas, by the folder of what they are on.

-- Lemmas on the laws.
pub mod laws
-- Lemmas on sizes as numbers.
pub mod sizes
-- Lemmas on pools.
pub mod pools
