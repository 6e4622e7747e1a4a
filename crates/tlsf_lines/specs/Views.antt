-- A trace as the definitions see it, and what a function gives beside what a definition says.
use Rattle.std.specs.Prelude.{ℕ, ◌≡◌, ◌+◌, ◌<◌, List, [], length, Option, Result, Ok, Err}
use Rattle.tlsf_lines.specs.declared.line.Line.{Line}
use Rattle.tlsf_lines.specs.declared.trace.Trace.{Trace as Held}
use Rattle.tlsf_lines.specs.declared.line_fault.LineFault.{LineFault}
use Rattle.tlsf_lines.specs.declared.parse_error.ParseError.{ParseError}
use Rattle.tlsf_lines.specs.declared.parse_error.ParseError.TheVariants as whole
use Rattle.tlsf_lines.specs.Ranges.{IsHeaderInRange}
use Rattle.tlsf_lines.specs.Pieces.{pieces_of}
use Rattle.tlsf_lines.specs.Trace.{◌>>=◌, Trace, lines_in, trace_of}
use Rattle.tlsf_lines.specs.declared.header.Header.{Header}

abbrev pub view_trace : Held → Trace
view_trace trace = record { header = trace.header; lines = trace.lines.items }

-- the definition says this fault at this line too; of a want of memory it says nothing
abbrev pub FailsAt : {Y : Type 0} → ParseError → Result Y (LineFault × ℕ) → Type 0
FailsAt whole.NoMemory said = Unit {0}
FailsAt (whole.At fault n) said = said ≡ Err (fault, n)

-- the line that was found, without what else was
abbrev pub line_found : Result (Line × Option ℕ) LineFault → Result Line LineFault
line_found (Ok found) = Ok found.0
line_found (Err fault) = Err fault

-- a text begins with this header, and this is the rest after that line
pub record Heads (text : List ℕ) (header : Header) (rest : List ℕ) : Type 0 where
  pub trace : trace_of text ≡ (lines_in header.workers [] 2 (pieces_of rest) >>= λ lines. Ok (record { header = header; lines = lines }))
  pub range : IsHeaderInRange header
  pub count : length (pieces_of text) ≡ length (pieces_of rest) + 1
  pub shorter : length rest < length text

-- the rest after a header is lines, and this was made of them
pub record HasLines {M : Type 0} (has : M → Header → List Line → List Line → Type 0) (header : Header) (text : List ℕ) (made : M) : Type 0 where
  pub before : List Line
  pub lines : List Line
  pub spelled : lines_in header.workers [] 2 (pieces_of text) ≡ Ok lines
  pub count : length lines ≡ length (pieces_of text)
  pub held : has made header before lines

-- a text spells this trace, and each of its pieces is a line
pub record Spells (text : List ℕ) (trace : Trace) : Type 0 where
  pub spelled : trace_of text ≡ Ok trace
  pub range : IsHeaderInRange trace.header
  pub count : length trace.lines + 1 ≡ length (pieces_of text)
