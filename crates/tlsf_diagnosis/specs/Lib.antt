-- Definitions that clauses of public functions cite: the line on a good trace, and the field of a fault. Also a limit that is
-- passed, the rows that show a line, and the tip on numbers.
pub mod TraceLines
pub mod FieldFaults
pub mod PassedLimits
pub mod Shown
pub mod Tips
pub mod Notes
-- Definitions that clauses of private functions cite, and some of those above.
pub mod Kinds
pub mod Passing
