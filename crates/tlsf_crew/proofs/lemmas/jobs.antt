-- Lemmas on jobs, before and after their threads.
pub mod Gathering
pub mod Popped
