-- The end of a run: what a trace puts out is written. This serves the contracts of private functions alone.
use Rattle.std.specs.Prelude.{◌≡◌, ℕ, List, Option, Result, Ok, Err, length}
use Rattle.std.specs.Io.KnownBytes.{Appends}
use Rattle.tlsf_lines.specs.Prefixes.{AppendsFront}
use Rattle.tlsf_lines.specs.TraceFaults.{write_fault}
use Rattle.tlsf_trace.specs.declared.summary.Summary.{Summary}
use Rattle.tlsf_lines.specs.declared.trace_fault.TraceFault.{TraceFault}

-- all was written and counted, and this many calls are told
pub record IsFinished (summary : Summary) (calls : ℕ) (output : List ℕ) (old new : Option (List ℕ)) : Type 0 where
  pub all : Appends old new output
  pub calls_are : summary.calls ≡ calls
  pub bytes : summary.bytes ≡ length output

-- a write failed, and a prefix was written
pub record IsCutShort (fault : TraceFault) (output : List ℕ) (old new : Option (List ℕ)) : Type 0 where
  pub fault_is : fault ≡ write_fault
  pub front : AppendsFront old new output

abbrev pub Finishes : Result Summary TraceFault → ℕ → List ℕ → Option (List ℕ) → Option (List ℕ) → Type 0
Finishes (Ok summary) calls output old new = IsFinished summary calls output old new
Finishes (Err fault) calls output old new = IsCutShort fault output old new
