-- The moments of a trace: what stands after each of its lines.
use Rattle.std.specs.Prelude.{ℕ, take}
use Rattle.tlsf_crew.specs.model.World.{Replayed, replies}
use Rattle.tlsf_lines.specs.Events.{events_by, events_of}
use Rattle.tlsf_lines.specs.Trace.{Trace}
use Rattle.tlsf_trace.specs.Output.{level_in, yard_of}

-- what the events up to a line are answered on a new yard, and what they leave, at a level
abbrev pub moment_at : (sli : ℕ) → ℕ → Trace → Replayed sli
moment_at sli line trace = replies (yard_of trace.header) (take (events_by line trace) (events_of trace))

-- at the level that its header names
abbrev pub moment_of : ℕ → (trace : Trace) → Replayed (level_in trace.header)
moment_of line trace = moment_at (level_in trace.header) line trace
