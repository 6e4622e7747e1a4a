-- The notes on a fault.
use Rattle.tlsf_diagnosis.proofs.Common.{◌≡◌, inl, inr, ℕ, List, Some, ap, arith, IsLineFault, fault_of, no_memory_fault, TraceFault}
use Rattle.tlsf_lines.specs.TraceFaults.{IsTextFault}
use Rattle.tlsf_diagnosis.specs.Notes.{Notes}
use Rattle.tlsf_diagnosis.proofs.UnreadRuns.{in_no_line, other_number}

-- a fault in a line is no lack of memory
pub of_text : (text : List ℕ) (fault : TraceFault) → IsTextFault text fault → (fault.line ≡ 0 → ⊥)
    → IsLineFault fault × (fault_of text ≡ Some fault)
of_text text fault (inl lacks) some = absurd (some (ap (λ (f : TraceFault). f.line) lacks))
of_text text fault (inr is) some = is

-- and what lies in no line is one
in_memory : (text : List ℕ) (fault : TraceFault) → IsTextFault text fault → fault.line ≡ 0 → fault ≡ no_memory_fault
in_memory text fault (inl lacks) none = lacks
in_memory text fault (inr is) none = absurd (in_no_line fault none is.0)

-- it has no note
pub nothing : (text : List ℕ) (fault : TraceFault) (old new : List ℕ) → IsTextFault text fault → fault.line ≡ 0 → new ≡ old
    → Notes text fault old new
nothing text fault old new known none same = record {
  line = λ of. absurd (in_no_line fault none of);
  limit = λ long. absurd (let no = other_number fault 6 15 (in_memory text fault known none) long in omega (arith, no));
  else = λ _ _. same;
}
