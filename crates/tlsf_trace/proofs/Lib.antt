-- The run and its text.
mod Common
pub mod Onward  -- a trace that is run from one of its moments to the next
pub mod PartByPart  -- entries whose lines are written part by part
pub mod ReportSteps  -- report lines of heaps, one heap after another
pub mod WholeOutput  -- what is put out, from its parts
pub mod WholeReplay  -- a replay that is done
-- Races.
pub mod OneText  -- a trace without `d` lines gives one text
pub mod RaceTold  -- what the text of a raced trace tells of each heap
pub mod RacedPhases  -- phases that are raced one after another, over lanes or over queues
