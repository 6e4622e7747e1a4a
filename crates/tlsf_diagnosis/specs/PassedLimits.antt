-- A limit that a trace passes, and the note on it.
use Rattle.std.specs.Prelude.{◌≡◌, ◌⊎◌, ℕ, List, ◌++◌, codes}
use Rattle.tlsf_lines.specs.Limits.{Passes}
use Rattle.tlsf_lines.specs.TraceFaults.{no_memory_fault, read_fault, too_long_fault}
use Rattle.tlsf_lines.specs.declared.trace_fault.TraceFault.{TraceFault}
use Rattle.tlsf_lines.specs.declared.limit.Limit.{Limit}
use Rattle.tlsf_lines.specs.declared.limit.Limit.TheVariants.{Bytes, Lines, Reads}
use Rattle.tlsf_lines.specs.declared.read_error.ReadError.{ReadError}
use Rattle.tlsf_lines.specs.declared.read_error.ReadError.TheVariants.{NoMemory, TooLong, Read}

-- what is noted of a text that passes a limit
abbrev pub limit_note : Limit → List ℕ
limit_note Bytes = codes "  the trace has more than 1,048,576 bytes: tools/sequence takes several traces\n"
limit_note Lines = codes "  the trace has more than 32,768 lines: line 32,769 is one too many; tools/sequence takes several traces\n"
limit_note Reads = codes "  the trace had not ended after 65,536 reads: it comes in pieces that are too small\n"

-- a limit that the text passes was noted
pub record NotesLimit (text old new : List ℕ) : Type 0 where
  pub limit : Limit
  pub passed : Passes limit text
  pub added : new ≡ old ++ limit_note limit

-- the fault of a trace that was not read whole, and what was noted of it. This serves the contract of a private function alone
abbrev pub NotesUnread : ReadError → TraceFault → List ℕ → List ℕ → Type 0
NotesUnread (TooLong limit) fault old new = ((fault ≡ too_long_fault) × (new ≡ old ++ limit_note limit)) ⊎ ((fault ≡ no_memory_fault) × (new ≡ old))
NotesUnread NoMemory fault old new = (fault ≡ no_memory_fault) × (new ≡ old)
NotesUnread Read fault old new = (fault ≡ read_fault) × (new ≡ old)
