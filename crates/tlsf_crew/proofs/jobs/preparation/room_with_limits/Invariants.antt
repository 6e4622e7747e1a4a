use Rattle.tlsf_crew.proofs.Common.{◌≡◌, ◌≤◌, ◌+◌, ◌*◌, slice_index, sum_below}
use Rattle.tlsf_crew.proofs.jobs.preparation.room_with_limits.Given as goal

abbrev pub invariant-loop-i : goal.invariant-loop-i
invariant-loop-i l = record {
  room : l.room ≡ l.calls + sum_below l.i (slice_index l.limits) + 1;
  most : l.room ≤ l.calls + 1 + l.i * 68719476736;
}
