mod Common
mod Walking
pub mod Boxes
pub mod Unwrapping
mod Draining
mod Putting
mod Counted
mod Carried
mod Giving
mod LeftUnnamed
mod DrainSteps
mod LeftParts
