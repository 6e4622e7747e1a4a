pub mod Points
pub mod Curves
pub mod Standings
pub mod Told
pub mod Plots
pub mod Worst
