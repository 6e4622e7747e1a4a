-- A script while it is made, and at last. This serves the contracts of private functions alone.
use Rattle.std.specs.Prelude.{ℕ, ◌≡◌, ◌+◌, ◌++◌, List, [], if◌then◌else◌, count_by, length, map, Ok}
use Rattle.tlsf_lines.specs.declared.line.Line.{Line}
use Rattle.tlsf_lines.specs.declared.script.Script.{Script}
use Rattle.tlsf_lines.specs.Events.{ends_from, ends_of, events_from, events_in, events_of, labels_from, labels_in, labels_of, width_in}
use Rattle.tlsf_lines.specs.Lines.{is_call, request_in}
use Rattle.tlsf_lines.specs.Trace.{Trace, calls_of, trace_of}

-- a script with the events and the labels of one line more
pub record Adds (workers : ℕ) (before : List Line) (line : Line) (old new : Script) : Type 0 where
  pub header : new.header ≡ old.header
  pub events : new.events ≡ old.events ++ events_in workers before line
  pub labels : new.labels.items ≡ old.labels.items ++ labels_in workers line
  pub calls : new.calls ≡ old.calls + (if is_call line then 1 else 0)
  pub ends : new.ends.items ≡ old.ends.items
  pub requests : new.requests.items ≡ old.requests.items

-- a script whose events and their labels alone are others
pub record IsSameBut (old new : Script) : Type 0 where
  pub header : new.header ≡ old.header
  pub calls : new.calls ≡ old.calls
  pub ends : new.ends.items ≡ old.ends.items
  pub requests : new.requests.items ≡ old.requests.items

-- a script has what these lines stand for; they are those before, the newest of which stands first there
pub record Holds (workers : ℕ) (before lines : List Line) (script : Script) : Type 0 where
  pub events : (more : List Line) → script.events ++ events_from workers before more ≡ events_from workers [] (lines ++ more)
  pub labels : (more : List Line) → script.labels.items ++ labels_from workers more ≡ labels_from workers (lines ++ more)
  pub calls : script.calls ≡ count_by is_call lines
  pub count : length script.events ≡ width_in workers lines
  pub ends : script.ends.items ≡ ends_from workers 0 lines
  pub requests : script.requests.items ≡ map request_in lines

-- the script of a trace
pub record IsScript (script : Script) (trace : Trace) : Type 0 where
  pub header : script.header ≡ trace.header
  pub events : script.events ≡ events_of trace
  pub labels : script.labels.items ≡ labels_of trace
  pub calls : script.calls ≡ calls_of trace
  pub ends : script.ends.items ≡ ends_of trace
  pub requests : script.requests.items ≡ map request_in trace.lines

-- the script of the trace that a text spells
pub record IsScriptOfText (text : List ℕ) (script : Script) : Type 0 where
  pub trace : Trace
  pub spelled : trace_of text ≡ Ok trace
  pub is_script : IsScript script trace
