use Rattle.tlsf_diagnosis.proofs.Common.{◌≡◌, drop, fields_of, HasBefore}
use Rattle.tlsf_diagnosis.proofs.spot.behind_fields.Given as goal

-- this many fields stand before the rest, which has the others
abbrev pub invariant-loop-i : goal.invariant-loop-i
invariant-loop-i l = record {
  before : HasBefore l.line l.rest l._i;
  left : drop l._i (fields_of l.line) ≡ fields_of l.rest;
}
