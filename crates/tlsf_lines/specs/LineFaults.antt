-- Faults of lines, by their numbers.
use Rattle.std.specs.Prelude.{ℕ}
use Rattle.tlsf_lines.specs.declared.line_fault.LineFault.{LineFault}
use Rattle.tlsf_lines.specs.declared.line_fault.LineFault.TheVariants.{BadHeader, BadLine, BadNumber, LabelOrder}

-- the number of a fault
abbrev pub number_of_fault : LineFault → ℕ
number_of_fault BadHeader = 11
number_of_fault BadLine = 12
number_of_fault BadNumber = 13
number_of_fault LabelOrder = 14
