-- Fields and lines.
mod Common
pub mod CutSteps  -- fields that are cut off a line, one after another
pub mod DigitSteps  -- the digits that a line of fields begins with
pub mod LastField  -- the last field of a line, which may be read as all that is left
pub mod LineJudged  -- a line, judged by its first field and what stands behind it
pub mod LineSteps  -- a step of the loop over lines
pub mod TableSteps  -- a table by label, when a thing is kept in it
pub mod LabelSteps  -- what is remembered of labels, behind a line and a phase
pub mod EmptyText  -- a text without bytes has no header
-- Texts and pieces.
pub mod FirstPiece  -- a text begins with its first piece
pub mod PiecesJoin  -- the pieces of a text, joined, are the text
pub mod PieceCounts  -- how many pieces two joined texts have
pub mod LongInputs  -- an input that passes a limit
pub mod ReadSteps  -- one read more of an input
pub mod PrefixSteps  -- a prefix that grows by what the writer took
-- Faults.
pub mod FirstFault  -- a fault at a line is the first one
pub mod TextFault  -- the fault that a text has instead of a trace
-- Events and reply lines.
pub mod KeptSteps  -- events that are kept: one more
pub mod ScriptSteps  -- events and labels of lines, one line after another
pub mod ReplySteps  -- reply lines of entries, one entry after another
-- Races.
pub mod WorkerByWorker  -- what is made for one worker after another
pub mod NamesLearned  -- what labels stand for behind one line more
pub mod PhaseCuts  -- a trace begins with its first phase
-- The definitions on worked rows.
mod WorkedTraces  -- whole traces, and the events of one
