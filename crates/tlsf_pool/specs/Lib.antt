-- The laws: what they say of any heap, and the sizes that they name.
pub mod laws
-- Ways to cut a table of kinds, and how the least one is found.
pub mod sizes
-- The view of the heaps that never refuse, and the facts that they keep.
pub mod pools
