-- The answer and the output of a run of a trace, by the text that it reads: a replay, and a race.
use Rattle.std.specs.Prelude.{◌≡◌, ◌⊎◌, ℕ, List, Option, Some, Result, Ok, IfOk, IfErr, IfSome, OnOk, length}
use Rattle.std.specs.Io.KnownBytes.{Appends, IsAtEnd, Keeps}
use Rattle.tlsf_trace.specs.Output.{output_of}
use Rattle.tlsf_trace.specs.RaceOutput.{IsQueueRaceOutput, IsRaceOutput}
use Rattle.tlsf_lines.specs.Prefixes.{AppendsFront}
use Rattle.tlsf_lines.specs.Limits.{IsWithinLimits, IsTooLong}
use Rattle.tlsf_lines.specs.Trace.{Trace, trace_of, calls_of}
use Rattle.tlsf_lines.specs.TraceFaults.{IsLineFault, fault_of, no_memory_fault, too_long_fault, read_fault, write_fault}
use Rattle.tlsf_trace.specs.declared.summary.Summary.{Summary}
use Rattle.tlsf_lines.specs.declared.trace_fault.TraceFault.{TraceFault}

-- ---- what a text asks for, by the texts that its trace may put out

abbrev pub Outputs : Type 1
Outputs = Trace → List ℕ → Type 0

-- a replay puts out one text, a race one of those that its schedules come to
abbrev pub Replays : Outputs
Replays trace output = output ≡ output_of trace

abbrev pub Races : Outputs
Races trace output = IsRaceOutput trace output

abbrev pub RacesQueues : Outputs
RacesQueues trace output = IsQueueRaceOutput trace output

-- the text spells a trace that may put out this, and makes this many calls
pub record AsksFor (Puts : Outputs) (text output : List ℕ) (calls : ℕ) : Type 0 where
  pub trace : Trace
  pub spelled : trace_of text ≡ Ok trace
  pub puts : Puts trace output
  pub calls_are : calls ≡ calls_of trace

-- ---- what is written

-- all that was asked for was written, and nothing else
pub record Writes (Puts : Outputs) (summary : Summary) (text : List ℕ) (old new : Option (List ℕ)) : Type 0 where
  pub output : List ℕ
  pub asked : AsksFor Puts text output summary.calls
  pub all : Appends old new output
  pub bytes : summary.bytes ≡ length output

-- a prefix of what was asked for was written, and nothing else
pub record WritesPrefix (Puts : Outputs) (text : List ℕ) (old new : Option (List ℕ)) : Type 0 where
  pub output : List ℕ
  pub calls : ℕ
  pub asked : AsksFor Puts text output calls
  pub front : AppendsFront old new output

-- ---- faults

-- a fault is that of a line, or one of memory, of the length, of a read or of a write
abbrev pub IsFault : TraceFault → Type 0
IsFault fault = IsLineFault fault
    ⊎ ((fault ≡ no_memory_fault) ⊎ ((fault ≡ too_long_fault) ⊎ ((fault ≡ read_fault) ⊎ (fault ≡ write_fault))))

-- ---- a run

-- a run of a trace, by what the reader has left and what the writer holds, before and after
pub record IsRun (Puts : Outputs) (answer : Result Summary TraceFault) (left left' written written' : Option (List ℕ)) : Type 0 where
  -- it is done: the text was read to its end, within the limits, and what it asks for was written
  pub ok : IfOk answer (λ summary. IfSome left (λ text. Writes Puts summary text written written'))
  pub end : OnOk answer (IsAtEnd left')
  pub limits : OnOk answer (IfSome left IsWithinLimits)
  -- it ended by a fault, which is one of these
  pub fault : IfErr answer IsFault
  -- a fault of a line is the first one of the text that was read
  pub line : IfErr answer (λ fault. IsLineFault fault → IfSome left (λ text. (fault_of text ≡ Some fault) × IsWithinLimits text))
  -- a text is too long only where it has too many lines, or so much text that its end need not show
  pub too_long : IfErr answer (λ fault. fault ≡ too_long_fault → IfSome left IsTooLong)
  -- after a fault in writing a prefix was written, after any other nothing
  pub front : IfErr answer (λ fault. fault ≡ write_fault → IfSome left (λ text. WritesPrefix Puts text written written' × IsWithinLimits text))
  pub kept : IfErr answer (λ fault. (fault ≡ write_fault → ⊥) → Keeps written written')
