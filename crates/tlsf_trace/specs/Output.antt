-- The output of a trace.
use Rattle.std.specs.Prelude.{ℕ, List, ◌++◌, Option}
use Rattle.tlsf_crew.specs.model.Opening.{opened_world}
use Rattle.tlsf_crew.specs.model.World.{World, Replayed, replies}
use Rattle.tlsf_lines.specs.declared.header.Header.{Header}
use Rattle.tlsf_lines.specs.Events.{events_of, labels_of}
use Rattle.tlsf_lines.specs.Versions.{level_of}
use Rattle.tlsf_lines.specs.ReplyLines.{reply_text}
use Rattle.tlsf_trace.specs.ReportLines.{report_text}
use Rattle.tlsf_lines.specs.Trace.{Trace}

-- the level that a header names
abbrev pub level_in : Header → ℕ
level_in header = level_of header.version

-- the yard that a header names, at a level
abbrev pub yard_of : {sli : ℕ} → Header → World sli
yard_of header = opened_world header.workers header.words header.capacity

-- what the events of a trace are answered on a new yard, at a level
abbrev pub run_at : (sli : ℕ) → Trace → Replayed sli
run_at sli trace = replies (yard_of trace.header) (events_of trace)

-- at the level that its header names
abbrev pub run_of : (trace : Trace) → Replayed (level_in trace.header)
run_of trace = run_at (level_in trace.header) trace

-- the lines of replies, and then those of the heaps that they leave
abbrev pub output_text : {sli : ℕ} → Replayed sli → List (Option ℕ) → List ℕ
output_text {sli} run labels = reply_text run.entries labels ++ report_text sli run.world.heaps

abbrev pub output_at : ℕ → Trace → List ℕ
output_at sli trace = output_text (run_at sli trace) (labels_of trace)

-- at the level that its header names
abbrev pub output_of : Trace → List ℕ
output_of trace = output_at (level_in trace.header) trace
