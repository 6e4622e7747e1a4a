-- The line that the program reports a fault by, and its exit status.
use Rattle.std.specs.Prelude.{ℕ, Bool, List, [], ◌++◌, ◌==◌, ◌&&◌, codes, nat_le, if◌then◌else◌}
use Rattle.std.specs.Fmt.{decimal}
use Rattle.tlsf_lines.specs.declared.trace_fault.TraceFault.{TraceFault}

-- what a fault's number stands for
abbrev pub reason_of : ℕ → List ℕ
reason_of number =
    if number == 6 then codes "out of memory"
    else (if number == 11 then codes "bad header"
    else (if number == 12 then codes "bad line"
    else (if number == 13 then codes "bad number"
    else (if number == 14 then codes "label out of order"
    else (if number == 15 then codes "trace too long"
    else (if number == 16 then codes "read failed"
    else (if number == 17 then codes "write failed" else codes "unknown fault")))))))

-- where a fault was found, if in a line
abbrev pub place_text : ℕ → List ℕ
place_text line = if line == 0 then [] else codes "line " ++ decimal line ++ codes ": "

-- the text of a fault, as `line 2: bad line (12)`
abbrev pub fault_text : TraceFault → List ℕ
fault_text fault =
    place_text fault.line ++ reason_of fault.no ++ codes " (" ++ decimal fault.no ++ codes ")"

-- the line that the program reports a fault by
abbrev pub fault_line : TraceFault → List ℕ
fault_line fault = codes "tlsf: " ++ (fault_text fault ++ codes "\n")

-- a fault in the trace itself: of its header, of a line, or of its length
abbrev pub is_of_trace : TraceFault → Bool
is_of_trace fault = nat_le 11 fault.no && nat_le fault.no 15

-- the tip to check a trace that has a fault
abbrev pub check_tip : TraceFault → List ℕ
check_tip fault = if is_of_trace fault then codes "tip: 'tlsf check < TRACE' says more\n" else []

-- the exit status of a run that ends by the fault
abbrev pub status_of_fault : TraceFault → ℕ
status_of_fault fault = if fault.no == 6 then 3 else 1
