-- Lemmas on the calls of a script.
pub mod DrainWorlds
pub mod LaneMoves
pub mod LaneTakes
pub mod ManyEntries
pub mod OneEntry
pub mod OwnTold
pub mod QueueRuns
pub mod QueueSteps
pub mod ScriptCalls
pub mod ScriptRuns
pub mod WithinTakes
pub mod Witnesses
