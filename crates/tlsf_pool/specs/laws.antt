-- The laws: what they say of any heap, and the sizes that they name.
pub mod Room
pub mod Held
pub mod MixedSizes
pub mod Kinds
pub mod OneLarge
pub mod FixedSize
pub mod Contents
pub mod Places
