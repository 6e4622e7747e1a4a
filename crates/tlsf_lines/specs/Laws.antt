-- Laws of every text, above the definitions.
use Rattle.std.specs.Prelude.{◌⊎◌, ℕ, ◌≡◌, ◌+◌, List, [], ◌∷◌, drop, take, Ok, Err, Some, None}
use Rattle.tlsf_lines.specs.declared.line_fault.LineFault.{LineFault}
use Rattle.tlsf_lines.specs.declared.line_fault.LineFault.TheVariants.{BadHeader}
use Rattle.tlsf_lines.specs.Fields.{field}
use Rattle.tlsf_lines.specs.Header.{header_in}
use Rattle.tlsf_lines.specs.declared.header.Header.{Header}
use Rattle.tlsf_lines.specs.declared.line.Line.{Line}
use Rattle.tlsf_lines.specs.Pieces.{pieces_of}
use Rattle.tlsf_lines.specs.Trace.{judged_line, lines_in, trace_of}

-- these lines, put before others, the newest first
abbrev pub after : List Line → List Line → List Line
after [] before = before
after (line ∷ lines) before = after lines (line ∷ before)

-- piece i is the first that is no line: those before it say these lines, and it alone fails
pub record FailsFirst (workers n : ℕ) (before : List Line) (pieces : List (List ℕ)) (fault : LineFault) (i : ℕ) (lines : List Line) : Type 0 where
  pub good : lines_in workers before n (take i pieces) ≡ Ok lines
  pub bad : judged_line workers (after lines before) (field pieces i) ≡ Err fault

-- the first piece is no header, and the fault says so
pub record FailsAtHeader (text : List ℕ) (fault : LineFault) (m : ℕ) : Type 0 where
  pub none : header_in (field (pieces_of text) 0) ≡ None
  pub fault_is : fault ≡ BadHeader
  pub line_is : m ≡ 1

-- the first piece is this header, and piece i behind it is the first that is no line
pub record FailsAtLine (text : List ℕ) (fault : LineFault) (m : ℕ) : Type 0 where
  pub header : Header
  pub i : ℕ
  pub lines : List Line
  pub headed : header_in (field (pieces_of text) 0) ≡ Some header
  pub line_is : m ≡ 2 + i
  pub first : FailsFirst header.workers 2 [] (drop 1 (pieces_of text)) fault i lines

-- a fault at line m is the first: what stands before it is good
abbrev pub IsFirstFault : List ℕ → LineFault → ℕ → Type 0
IsFirstFault text fault m = trace_of text ≡ Err (fault, m) → FailsAtHeader text fault m ⊎ FailsAtLine text fault m
