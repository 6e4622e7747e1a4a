-- Definitions that clauses of public functions cite: the request of a trace, and its output.
pub mod ReportLines
pub mod Output
pub mod RaceOutput
pub mod RaceHistory
pub mod OneText
pub mod Replay
pub mod Finish
pub mod Moments
pub mod Players
pub use Rattle.tlsf_lines.specs.Pieces
pub use Rattle.tlsf_lines.specs.Trace
pub use Rattle.tlsf_lines.specs.Events
pub use Rattle.tlsf_lines.specs.ReplyLines
pub use Rattle.tlsf_lines.specs.Phases
pub use Rattle.tlsf_lines.specs.Records
pub use Rattle.tlsf_lines.specs.TraceFaults
pub use Rattle.tlsf_lines.specs.Limits
pub use Rattle.tlsf_lines.specs.Prefixes
-- Definitions that only clauses of private functions cite.
pub mod RaceSoFar
pub mod RacedYards
