-- The lemmas of this crate, a line a file.
--   Common: the names that most proofs cite, passed on from one place
--   BitmapWords: what the operations on the words of the bitmaps make of the members
--   ClassByBits: the class of a size by its highest bit and the bits below
--   ClassOfSize: the class and the search class of a size, by the least sizes below and above it
--   Lows: the least sizes rise strictly from class to class
--   Members: sets of classes that a test picks, and what they become with a member more or less
--   OneBit: the bits of a word of 32 bits under a mask, and with one bit cleared
--   RangeSearch: what searches among numbers in rising order find
--   Tables: the definitions of classes against known values
--   TwoLevels: what holds of second levels of 4 and of 5 bits, and how the number of a class splits into its two levels
mod Common
pub mod BitmapWords
pub mod ClassByBits
pub mod ClassOfSize
pub mod Lows
pub mod Members
pub mod OneBit
pub mod RangeSearch
pub mod Tables
pub mod TwoLevels
