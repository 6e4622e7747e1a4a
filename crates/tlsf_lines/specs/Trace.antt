-- A trace: its header and its lines, or the first faulty line.
use Rattle.std.specs.Prelude.{ℕ, ◌+◌, Bool, true, false, List, [], ◌∷◌, count_by, drop, Option, Some, None, Result, Ok, Err}
use Rattle.tlsf_lines.specs.declared.line_fault.LineFault.{LineFault}
use Rattle.tlsf_lines.specs.declared.line_fault.LineFault.TheVariants.{BadHeader, BadLine, BadNumber, LabelOrder}
use Rattle.tlsf_lines.specs.Pieces.{pieces_of}
use Rattle.tlsf_lines.specs.Fields.{field, fields_in, values_in}
use Rattle.tlsf_lines.specs.Lines.{is_call, kinds_of, line_from, keyword_of, keywords}
use Rattle.tlsf_lines.specs.Labels.{is_in_order}
use Rattle.tlsf_lines.specs.Header.{header_in}
use Rattle.tlsf_lines.specs.declared.header.Header.{Header}
use Rattle.tlsf_lines.specs.declared.line.Line.{Line}

-- go on with what was good
infixl 10 ◌>>=◌
abbrev pub ◌>>=◌ : {A B E : Type 0} → Result A E → (A → Result B E) → Result B E
(Ok good) >>= next = next good
(Err fault) >>= next = Err fault

-- what was found, or this fault
abbrev pub some_or : {A E : Type 0} → Option A → E → Result A E
some_or (Some found) fault = Ok found
some_or None fault = Err fault

-- this fault, unless the test holds
abbrev pub unless : {E : Type 0} → Bool → E → Result (Unit {0}) E
unless true fault = Ok tt
unless false fault = Err fault

-- one line, after the lines before
unfoldable pub judged_line : ℕ → List Line → List ℕ → Result Line LineFault
judged_line workers before piece = do
  fields ← some_or (fields_in piece) BadLine
  keyword ← some_or (keyword_of keywords (field fields 0)) BadLine
  values ← some_or (values_in workers (kinds_of keyword) (drop 1 fields)) BadLine
  line ← some_or (line_from keyword values) BadNumber
  _ ← unless (is_in_order before line) LabelOrder
  Ok line

-- the number of the line, put on a fault
abbrev pub at_line : {A : Type 0} → ℕ → Result A LineFault → Result A (LineFault × ℕ)
at_line n (Ok good) = Ok good
at_line n (Err fault) = Err (fault, n)

-- lines number n and on, after the lines before, the newest of them first
unfoldable pub lines_in : ℕ → List Line → ℕ → List (List ℕ) → Result (List Line) (LineFault × ℕ)
lines_in workers before n [] = Ok []
lines_in workers before n (piece ∷ pieces) = do
  line ← at_line n (judged_line workers before piece)
  lines ← lines_in workers (line ∷ before) (n + 1) pieces
  Ok (line ∷ lines)

pub record Trace : Type 0 where
  pub header : Header
  pub lines : List Line

-- how many lines are calls
abbrev pub calls_of : Trace → ℕ
calls_of trace = count_by is_call trace.lines

-- the trace that a text spells, or its first fault with the number of the line
unfoldable pub trace_of : List ℕ → Result Trace (LineFault × ℕ)
trace_of text = do
  header ← some_or (header_in (field (pieces_of text) 0)) (BadHeader, 1)
  lines ← lines_in header.workers [] 2 (drop 1 (pieces_of text))
  Ok (record { header = header; lines = lines })
