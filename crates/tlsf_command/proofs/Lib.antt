-- Lemmas, a line for each file.
mod Common
pub mod ClassLines  -- the line on a size, piece by piece
pub mod Building  -- the program's commands, one argument after the other
pub mod NamedRuns  -- words that are written out, and name a run of a trace
pub mod Faultless  -- a command line that comes to no fault names a command
pub mod ChosenCommands  -- what the words ask for, by what `clap` answers of them
pub mod Quoting  -- a name between quotes, up to each quote of its own
pub mod Fronts  -- a front of two texts in a row
pub mod Notes  -- what is noted of a fault
pub mod RunEnds  -- how a run ends, by what its words name
pub mod Greatest  -- the most bytes for so many blocks
pub mod SizeTables  -- tables of kinds, and the numbers of texts
pub mod SplitParts  -- the heaps of a split, one after the other
