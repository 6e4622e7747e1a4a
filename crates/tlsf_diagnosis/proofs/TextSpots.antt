-- The field of a text's fault.
use Rattle.tlsf_diagnosis.proofs.Common.{◌≡◌, inl, inr, ℕ, suc, ◌-◌, List, [], ◌∷◌, drop, Some, None, Result, Ok, Err, refl, sym, ap, subst, ◌∙◌, arith, field, header_in, pieces_of, Trace, judged_line, trace_of, fault_by, fault_in, fault_of, Line, LineFault, BadHeader, TraceFault, IsFieldOf, IsFoundIn, workers_by, workers_in}
use Rattle.tlsf_lines.specs.Laws.{FailsAtHeader, FailsAtLine, after}
use Rattle.tlsf_lines.specs.declared.header.Header.{Header}
use Rattle.tlsf_lines.proofs.FirstFault.{is_first}

-- piece i behind the first is piece i + 1
behind_first : (pieces : List (List ℕ)) (i : ℕ) → field (drop 1 pieces) i ≡ field pieces (suc i)
behind_first [] i = refl
behind_first (piece ∷ pieces) i = refl

-- the fault that a text was refused with
same_fault : (text : List ℕ) (fault : TraceFault) (judged : Result Trace (LineFault × ℕ)) → trace_of text ≡ judged → fault_by judged ≡ Some fault
    → (why : LineFault) × (at : ℕ) × (fault ≡ fault_in why at) × (trace_of text ≡ Err (why, at))
same_fault text fault (Ok trace) is none = cc
same_fault text fault (Err e) is same = (e.0, e.1, (let one : fault_in e.0 e.1 ≡ fault = cc in sym one), is)

-- the first line is no header
module _ (text : List ℕ) (fault : TraceFault) (n : ℕ) where
  at_header : (why : LineFault) (at : ℕ) → fault ≡ fault_in why at → trace_of text ≡ Err (why, at) → FailsAtHeader text why at
      → ((workers : ℕ) → IsFieldOf workers BadHeader (field (pieces_of text) 0) n) → IsFoundIn text fault n
  at_header why at is refused failed found = record {
    why = why;
    at = at;
    fault_is = is;
    refused = refused;
    field_is = let first : 0 ≡ at - 1 = omega (arith, failed.line_is) in
        subst (λ (w : LineFault). IsFieldOf (workers_in text) w (field (pieces_of text) (at - 1)) n) (sym failed.fault_is)
        (subst (λ (k : ℕ). IsFieldOf (workers_in text) BadHeader (field (pieces_of text) k) n) first (found (workers_in text)));
  }

  -- a line after it is at fault
  at_line : (why : LineFault) (at : ℕ) → fault ≡ fault_in why at → trace_of text ≡ Err (why, at) → (failed : FailsAtLine text why at)
      → ((before : List Line) (w : LineFault) → judged_line failed.header.workers before (field (pieces_of text) (fault.line - 1)) ≡ Err w
      → IsFieldOf failed.header.workers w (field (pieces_of text) (fault.line - 1)) n)
      → IsFoundIn text fault n
  at_line why at is refused failed found =
      let line : fault.line ≡ at = ap (λ (f : TraceFault). f.line) is in
      let place : suc failed.i ≡ fault.line - 1 = omega (arith, line, failed.line_is) in
      let named : failed.header.workers ≡ workers_in text = ap workers_by (sym failed.headed) in
      let piece : field (drop 1 (pieces_of text)) failed.i ≡ field (pieces_of text) (fault.line - 1) =
      behind_first (pieces_of text) failed.i ∙ ap (λ k. field (pieces_of text) k) place in
      let bad : judged_line failed.header.workers (after failed.lines []) (field (pieces_of text) (fault.line - 1)) ≡ Err why =
      subst (λ (p : List ℕ). judged_line failed.header.workers (after failed.lines []) p ≡ Err why) piece failed.first.bad in
      record {
        why = why;
        at = at;
        fault_is = is;
        refused = refused;
        field_is = subst (λ (k : ℕ). IsFieldOf (workers_in text) why (field (pieces_of text) (k - 1)) n) line
            (subst (λ (w : ℕ). IsFieldOf w why (field (pieces_of text) (fault.line - 1)) n) named
            (found (after failed.lines []) why bad));
      }

-- a first line has one header or none
no_header : (piece : List ℕ) (header : Header) → header_in piece ≡ None → header_in piece ≡ Some header → ⊥
no_header piece header none some = cc

one_header : (piece : List ℕ) (a b : Header) → header_in piece ≡ Some a → header_in piece ≡ Some b → a ≡ b
one_header piece a b is same = cc

-- a text without a header, by what was found in its first line
pub found_in_header : (text : List ℕ) (fault : TraceFault) (n : ℕ) → fault_of text ≡ Some fault → header_in (field (pieces_of text) 0) ≡ None
    → ((workers : ℕ) → IsFieldOf workers BadHeader (field (pieces_of text) 0) n) → IsFoundIn text fault n
found_in_header text fault n same none found =
    let e = same_fault text fault (trace_of text) refl same in
    elim (is_first text e.0 e.1 e.3) [
      | inl failed ↦ at_header text fault n e.0 e.1 e.2 e.3 failed found
      | inr failed ↦ (let some = failed.headed in absurd (no_header (field (pieces_of text) 0) failed.header none some))
    ]

-- a text with one, by what was found in the faulty line
pub found_in_line : (text : List ℕ) (fault : TraceFault) (n : ℕ) (header : Header) → fault_of text ≡ Some fault → header_in (field (pieces_of text) 0) ≡ Some header
    → ((before : List Line) (w : LineFault) → judged_line header.workers before (field (pieces_of text) (fault.line - 1)) ≡ Err w
    → IsFieldOf header.workers w (field (pieces_of text) (fault.line - 1)) n)
    → IsFoundIn text fault n
found_in_line text fault n header same some found =
    let e = same_fault text fault (trace_of text) refl same in
    elim (is_first text e.0 e.1 e.3) [
      | inl failed ↦ absurd (no_header (field (pieces_of text) 0) header failed.none some)
      | inr failed ↦ at_line text fault n e.0 e.1 e.2 e.3 failed
          (subst (λ (h : Header). (before : List Line) (w : LineFault) → judged_line h.workers before (field (pieces_of text) (fault.line - 1)) ≡ Err w
          → IsFieldOf h.workers w (field (pieces_of text) (fault.line - 1)) n) (one_header (field (pieces_of text) 0) header failed.header some failed.headed) found)
    ]
