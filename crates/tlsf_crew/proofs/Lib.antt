-- Each file says in its first line what it is on.
mod Common
pub mod lemmas
