-- The lemmas of this crate, a line a file.
mod Common
pub mod PassingSteps  -- fields that pass as those of their kinds, one after another
pub mod Astray  -- the field by which fields go astray
pub mod Refusals  -- what a fault tells of the fields of a line
pub mod LineSpots  -- the field of a line's fault
pub mod HeaderSpots  -- the field by which a first line is no header
pub mod PieceSteps  -- the pieces of a text, one after another
pub mod TextSpots  -- the field of a text's fault
pub mod UnreadRuns  -- a trace that was not read whole
pub mod NoteSteps  -- what is noted of a fault
pub mod FieldSteps  -- the fields of a line as bytes of it, and the rows that show it
