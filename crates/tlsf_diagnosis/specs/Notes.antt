-- The output and the notes of a check of a trace.
use Rattle.std.specs.Prelude.{◌≡◌, ℕ, Bool, true, false, List, [], ◌++◌, codes}
use Rattle.std.specs.Fmt.{decimal}
use Rattle.std.specs.List.{flat_map}
use Rattle.tlsf_lines.specs.TraceFaults.{IsLineFault, too_long_fault}
use Rattle.tlsf_lines.specs.declared.trace_fault.TraceFault.{TraceFault}
use Rattle.tlsf_trace.specs.Replay.{Outputs}
use Rattle.tlsf_diagnosis.specs.TraceLines.{trace_line}
use Rattle.tlsf_diagnosis.specs.FieldFaults.{IsFoundIn}
use Rattle.tlsf_diagnosis.specs.PassedLimits.{NotesLimit}
use Rattle.tlsf_diagnosis.specs.Shown.{ShowsField, shown_byte}
use Rattle.tlsf_diagnosis.specs.Tips.{wants_tip}

-- of a good trace one line is put out
abbrev pub Describes : Outputs
Describes trace output = output ≡ trace_line trace

-- a row with the number of a field, and words on it, each byte of them as it is shown
abbrev pub field_row : ℕ → List ℕ → List ℕ
field_row n words = codes "  field " ++ decimal n ++ flat_map shown_byte words ++ codes "\n"

-- a row with the tip on numbers, or none
abbrev pub tip_row : Bool → List ℕ
tip_row true = codes "  " ++ codes "tip: numbers are plain digits, as 65536 for 64 KiB\n"
tip_row false = []

-- a note shows line number `line` of a text with a mark in field n, and names the field below. The tip on numbers follows if and only
-- if a number with more in it than digits stands there, and a number is wanted
pub record NamesField (text : List ℕ) (line n : ℕ) (note : List ℕ) : Type 0 where
  pub shown : List ℕ
  pub words : List ℕ
  pub shows : ShowsField text line n shown
  pub note_is : note ≡ shown ++ field_row n words ++ tip_row (wants_tip text line n)

-- a note was added that names the field in which the fault of a text is found
pub record NotesField (text : List ℕ) (fault : TraceFault) (old new : List ℕ) : Type 0 where
  pub n : ℕ
  pub note : List ℕ
  pub found : IsFoundIn text fault n
  pub named : NamesField text fault.line n note
  pub added : new ≡ old ++ note

-- so where a line is at fault, and where the trace is too long the limit that it passes; else nothing was added
pub record Notes (text : List ℕ) (fault : TraceFault) (old new : List ℕ) : Type 0 where
  pub line : IsLineFault fault → NotesField text fault old new
  pub limit : fault ≡ too_long_fault → NotesLimit text old new
  pub else : (IsLineFault fault → ⊥) → (fault ≡ too_long_fault → ⊥) → new ≡ old
