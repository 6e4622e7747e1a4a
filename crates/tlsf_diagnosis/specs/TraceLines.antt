-- The line on a good trace.
use Rattle.std.specs.Prelude.{ℕ, ◌+◌, ◌==◌, Bool, true, false, if◌then◌else◌, List, [], ◌++◌, codes, count_by}
use Rattle.std.specs.Fmt.{decimal}
use Rattle.tlsf_lines.specs.Trace.{Trace, calls_of}
use Rattle.tlsf_lines.specs.declared.line.Line.{Line}
use Rattle.tlsf_lines.specs.declared.line.Line.TheVariants.{Phase}
use Rattle.tlsf_lines.specs.declared.version.Version.{Version}
use Rattle.tlsf_lines.specs.declared.version.Version.TheVariants.{One, Two}

abbrev pub number_of : Version → ℕ
number_of One = 1
number_of Two = 2

-- whether a line ends a phase
abbrev pub is_phase : Line → Bool
is_phase Phase = true
is_phase _ = false

-- the end of a trace ends a phase too
abbrev pub phases_of : Trace → ℕ
phases_of trace = count_by is_phase trace.lines + 1

-- a count of them, as `1 call` and `2 calls`
abbrev pub quantity : ℕ → List ℕ → List ℕ
quantity n thing = decimal n ++ codes " " ++ thing ++ (if n == 1 then [] else codes "s")

-- trace of version 1: 2 workers of 64 words, 7 calls, 2 phases
abbrev pub trace_line : Trace → List ℕ
trace_line trace =
    codes "trace of version " ++ decimal (number_of trace.header.version) ++ codes ": " ++ quantity trace.header.workers (codes "worker")
    ++ codes " of " ++ decimal trace.header.words ++ codes " words, " ++ quantity (calls_of trace) (codes "call")
    ++ codes ", " ++ quantity (phases_of trace) (codes "phase") ++ codes "\n"
