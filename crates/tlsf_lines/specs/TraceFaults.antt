-- The faults that a replay answers, by their numbers and lines.
use Rattle.std.specs.Prelude.{◌≡◌, ◌⊎◌, ℕ, ◌≤◌, List, Option, Some, None, Result, Ok, Err}
use Rattle.tlsf_lines.specs.LineFaults.{number_of_fault}
use Rattle.tlsf_lines.specs.Trace.{Trace, trace_of}
use Rattle.tlsf_lines.specs.declared.line_fault.LineFault.{LineFault}
use Rattle.tlsf_lines.specs.declared.parse_error.ParseError.{ParseError}
use Rattle.tlsf_lines.specs.declared.parse_error.ParseError.TheVariants as parsing
use Rattle.tlsf_lines.specs.declared.read_error.ReadError.{ReadError}
use Rattle.tlsf_lines.specs.declared.read_error.ReadError.TheVariants.{NoMemory, TooLong, Read}
use Rattle.tlsf_lines.specs.declared.trace_fault.TraceFault.{TraceFault}

-- the fault of a line
abbrev pub fault_in : LineFault → ℕ → TraceFault
fault_in fault line = record { no = number_of_fault fault; line = line }

-- a fault that is found in no line
abbrev pub fault_numbered : ℕ → TraceFault
fault_numbered number = record { no = number; line = 0 }

abbrev pub no_memory_fault : TraceFault
no_memory_fault = fault_numbered 6

abbrev pub too_long_fault : TraceFault
too_long_fault = fault_numbered 15

abbrev pub read_fault : TraceFault
read_fault = fault_numbered 16

abbrev pub write_fault : TraceFault
write_fault = fault_numbered 17

-- the fault of a run whose trace was not read
abbrev pub fault_of_read : ReadError → TraceFault
fault_of_read NoMemory = no_memory_fault
fault_of_read (TooLong limit) = too_long_fault
fault_of_read Read = read_fault

-- the fault of a run whose trace is none
abbrev pub fault_of_parse : ParseError → TraceFault
fault_of_parse parsing.NoMemory = no_memory_fault
fault_of_parse (parsing.At fault line) = fault_in fault line

-- a fault of a line has its number and its line, counted from 1
abbrev pub IsLineFault : TraceFault → Type 0
IsLineFault fault = (line_fault : LineFault) × (line : ℕ) × (1 ≤ line) × (fault ≡ fault_in line_fault line)

-- the first fault of a text that spells no trace
abbrev pub fault_by : Result Trace (LineFault × ℕ) → Option TraceFault
fault_by (Ok trace) = None
fault_by (Err fault) = Some (fault_in fault.0 fault.1)

abbrev pub fault_of : List ℕ → Option TraceFault
fault_of text = fault_by (trace_of text)

-- the fault of a text that was read: a want of memory, or its first fault, which is that of a line
abbrev pub IsTextFault : List ℕ → TraceFault → Type 0
IsTextFault text fault = (fault ≡ no_memory_fault) ⊎ (IsLineFault fault × (fault_of text ≡ Some fault))
