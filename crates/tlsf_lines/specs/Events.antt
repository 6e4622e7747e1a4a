-- The events that a trace stands for, and the label of each.
use Rattle.std.specs.Prelude.{ℕ, ◌+◌, ◌-◌, List, [], ◌∷◌, ◌++◌, length, map, nat_lt, replicate, take, Option, Some, None, if◌then◌else◌}
use Rattle.std.specs.List.{range_with_len}
use Rattle.tlsf_calls.specs.declared.event.Event.{Event}
use Rattle.tlsf_calls.specs.declared.call.Call.{Call}
use Rattle.tlsf_calls.specs.declared.call.Call.TheVariants as call
use Rattle.tlsf_calls.specs.declared.target.Target.{Target}
use Rattle.tlsf_calls.specs.declared.target.Target.TheVariants.{Made, Absent}
use Rattle.tlsf_lines.specs.declared.line.Line.{Line}
use Rattle.tlsf_lines.specs.declared.line.Line.TheVariants.{Allocate, Release, Write, Read, Resize, Drain, Phase}
use Rattle.tlsf_lines.specs.Labels.{counted_at}
use Rattle.tlsf_lines.specs.Lines.{label_in}
use Rattle.tlsf_lines.specs.Trace.{Trace}

-- ---- drains

-- the drain that a worker makes where a phase ends
abbrev pub last_drain : ℕ → Event
last_drain worker = record { worker = worker; call = call.Drain 8192 }

-- where a phase ends, and where the trace does, each worker drains, in rising number
abbrev pub last_drains : ℕ → List Event
last_drains workers = map last_drain (range_with_len 0 workers)

-- ---- what labels stand for

-- how many events a line stands for
abbrev pub width_of : ℕ → Line → ℕ
width_of workers Phase = workers
width_of workers _ = 1

-- how many events some lines stand for
abbrev pub width_in : ℕ → List Line → ℕ
width_in workers [] = 0
width_in workers (line ∷ lines) = width_of workers line + width_in workers lines

-- how many events there are up to each of some lines, where this many come before
abbrev pub ends_from : ℕ → ℕ → List Line → List ℕ
ends_from workers before [] = []
ends_from workers before (line ∷ lines) = let end = before + width_of workers line in end ∷ ends_from workers end lines

-- up to each line of a trace
abbrev pub ends_of : Trace → List ℕ
ends_of trace = ends_from trace.header.workers 0 trace.lines

-- the number of the event that makes a label, by the lines before, the newest first: this many events come before it
abbrev pub maker_of : ℕ → ℕ → List Line → Option ℕ
maker_of workers label before = counted_at (width_in workers) label before

-- what that event made, where there is one
abbrev pub made_by : Option ℕ → Target
made_by None = Absent
made_by (Some k) = Made k

abbrev pub target_of : ℕ → ℕ → List Line → Target
target_of workers label before = made_by (maker_of workers label before)

-- the event that makes the label that a line uses, after the lines before; a line that uses none has no such event
abbrev pub maker_used : ℕ → List Line → Line → Option ℕ
maker_used workers before (Release worker label) = maker_of workers label before
maker_used workers before (Write worker label at bytes) = maker_of workers label before
maker_used workers before (Read worker label at n) = maker_of workers label before
maker_used workers before (Resize worker label len) = maker_of workers label before
maker_used workers before _ = None

-- ---- events

abbrev pub one_event : ℕ → Call → List Event
one_event worker call = record { worker = worker; call = call } ∷ []

-- the events that a line stands for, after the lines before
abbrev pub events_in : ℕ → List Line → Line → List Event
events_in workers before (Allocate worker label len) = one_event worker (call.Allocate len)
events_in workers before (Release worker label) = one_event worker (call.Release (target_of workers label before))
events_in workers before (Write worker label at bytes) = one_event worker (call.Write (target_of workers label before) at bytes)
events_in workers before (Read worker label at n) = one_event worker (call.Read (target_of workers label before) at n)
events_in workers before (Resize worker label len) = one_event worker (call.Resize (target_of workers label before) len)
events_in workers before (Drain worker most) = one_event worker (call.Drain most)
events_in workers before Phase = last_drains workers

-- the events of lines, after the lines before, and the drains at the end
abbrev pub events_from : ℕ → List Line → List Line → List Event
events_from workers before [] = last_drains workers
events_from workers before (line ∷ lines) = events_in workers before line ++ events_from workers (line ∷ before) lines

abbrev pub events_of : Trace → List Event
events_of trace = events_from trace.header.workers [] trace.lines

-- ---- labels

-- the label of each event of a line: a drain has none
abbrev pub labels_in : ℕ → Line → List (Option ℕ)
labels_in workers Phase = replicate workers None
labels_in workers line = label_in line ∷ []

-- the label of each event of the lines, and of the drains at the end
abbrev pub labels_from : ℕ → List Line → List (Option ℕ)
labels_from workers [] = replicate workers None
labels_from workers (line ∷ lines) = labels_in workers line ++ labels_from workers lines

abbrev pub labels_of : Trace → List (Option ℕ)
labels_of trace = labels_from trace.header.workers trace.lines

-- ---- up to a line

-- how many events there are up to a line of the text, whose header is line 1. After the last line these are all, with the drains at
-- the end
abbrev pub events_by : ℕ → Trace → ℕ
events_by line trace =
    if nat_lt (length trace.lines + 1) line then length (events_of trace) else width_in trace.header.workers (take (line - 1) trace.lines)
