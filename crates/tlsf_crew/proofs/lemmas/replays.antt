-- Lemmas on replays.
pub mod Exact
pub mod Room
