pub mod Labelled
pub mod Drawn
pub mod Pages
-- Plots: the points of a heap over the lines of its trace, its curve, and the line to look at.
pub mod plots
-- Definitions that only clauses of private functions cite.
pub mod Steps
