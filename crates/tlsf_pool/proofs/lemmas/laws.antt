-- Lemmas on the laws, a line a file.
--   Around: what a call leaves of a fact about each block, and of the words of a region
--   Choices: the block that good fit chooses
--   Comb: a heap of one block that has one word less, and refuses
--   FixedCalls: calls whose each request takes the words of a fixed size
--   FixedSize: blocks of a fixed size begin at its multiples, so each free one but the last serves
--   FixedWords: the words for a fixed size are no more than those for mixed sizes or a table
--   FreeRoom: room by counting free blocks, and those too small
--   Held: as many blocks are live as are held
--   Hundred: the words of two regions, by computing
--   Inventories: an inventory has the length of each live block, under its name
--   Loads: sums over live blocks, and what the calls make of them
--   Looks: the bytes under a name, by a look through the blocks
--   ModestCalls: what each call leaves of the bounds of blocks of mixed sizes
--   Names: whether two names are the same
--   OneLargeCalls: what each call leaves of the hole for one large block
--   Orders: the order of the kinds of a table doesn't change its words
--   PlannedCalls: what each call leaves of the bounds of a table of kinds
--   Refits: what a resize leaves of its block, by its cases
--   Reserves: the greatest hole, a large block in front of it counted with it
--   Snug: no live block has four words that it doesn't want
--   Occupied: names by the sites of their blocks
--   Tables: how many blocks fit a table of kinds, and the words they take
--   TightRuns: calls that leave holes just too small for a request
pub mod Around
pub mod Choices
pub mod Comb
pub mod FixedCalls
pub mod FixedSize
pub mod FixedWords
pub mod FreeRoom
pub mod Held
pub mod Hundred
pub mod Inventories
pub mod Loads
pub mod Looks
pub mod ModestCalls
pub mod Names
pub mod OneLargeCalls
pub mod Orders
pub mod PlannedCalls
pub mod Refits
pub mod Reserves
pub mod Snug
pub mod Occupied
pub mod Tables
pub mod TightRuns
