use Rattle.tlsf_diagnosis.proofs.Common.{◌≡◌, ◌+◌, drop, passes, all_pass, passing_count, fields_left}
use Rattle.tlsf_diagnosis.proofs.field_spots.first_failing.Given as goal

-- those before pass
abbrev pub invariant-loop-i : goal.invariant-loop-i
invariant-loop-i l = record {
  count : passing_count (λ k f. passes l.judge k f) l.kinds (fields_left l.fields)
      ≡ l.i + passing_count (λ k f. passes l.judge k f) (drop l.i l.kinds) (fields_left l.left);
  all : all_pass (λ k f. passes l.judge k f) l.kinds (fields_left l.fields)
      ≡ all_pass (λ k f. passes l.judge k f) (drop l.i l.kinds) (fields_left l.left);
}
