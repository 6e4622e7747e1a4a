-- All that the threads of a race are given, and their promise of what they hand back.
pub mod Job
pub mod Parts
