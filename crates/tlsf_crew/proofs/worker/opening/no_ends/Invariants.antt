use Rattle.std.proofs.Common.{◌≡◌, ◌≤◌, ◌-◌, None, replicate, vec_len, vec_capacity}
use Rattle.tlsf_crew.proofs.worker.opening.no_ends.Given as goal

abbrev pub invariant-loop-ends : goal.invariant-loop-ends
invariant-loop-ends g l = record {
  room : l.n ≤ vec_capacity l.ends;
  most : vec_len l.ends ≤ l.n;
  none : l.ends.items ≡ replicate (vec_len l.ends) None;
}

abbrev pub decreases-loop-ends : goal.decreases-loop-ends
decreases-loop-ends g l = l.n - vec_len l.ends
