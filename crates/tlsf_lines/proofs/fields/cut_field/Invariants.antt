use Rattle.tlsf_lines.proofs.CutSteps.{NoSpaces}
use Rattle.tlsf_lines.proofs.fields.cut_field.Given as goal

abbrev pub invariant-loop-i : goal.invariant-loop-i
invariant-loop-i l = NoSpaces l.line l.i
