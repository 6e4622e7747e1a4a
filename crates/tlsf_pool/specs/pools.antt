-- The view of the heaps that never refuse, and the facts that they keep.
pub mod Bounds
pub mod Tables
pub mod Parts
