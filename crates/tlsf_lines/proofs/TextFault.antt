-- The fault that a text has instead of a trace.
use Rattle.tlsf_lines.proofs.Common.{◌≡◌, inl, inr, ℕ, ◌≤◌, List, Err, refl, ap, arith, IsTextFault, fault_by, trace_of, fault_of_parse, LineFault}
use Rattle.tlsf_lines.specs.Views.{FailsAt}
use Rattle.tlsf_lines.specs.declared.parse_error.ParseError.{ParseError}
use Rattle.tlsf_lines.specs.declared.parse_error.ParseError.TheVariants as parsing
use Rattle.tlsf_lines.proofs.FirstFault.{is_first}

-- a fault of a line comes from line 1 on
line_of_fault : (text : List ℕ) (fault : LineFault) (line : ℕ) → trace_of text ≡ Err (fault, line) → 1 ≤ line
line_of_fault text fault line h = elim (is_first text fault line h) [
  | inl header ↦ omega (arith, header.line_is)
  | inr behind ↦ omega (arith, behind.line_is)
]

pub text_fault : (error : ParseError) (text : List ℕ) → FailsAt error (trace_of text) → IsTextFault text (fault_of_parse error)
text_fault parsing.NoMemory text h = inl refl
text_fault (parsing.At fault line) text h = inr ((fault, line, line_of_fault text fault line h, refl), ap fault_by h)
