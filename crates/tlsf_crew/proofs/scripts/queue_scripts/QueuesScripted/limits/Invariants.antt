use Rattle.tlsf_crew.proofs.Common.{◌≡◌, ◌+◌, ◌*◌, ◌≤◌, slice_index, sum_below}
use Rattle.tlsf_crew.proofs.scripts.queue_scripts.QueuesScripted.limits.Given as goal

abbrev pub invariant-loop-i : goal.invariant-loop-i
invariant-loop-i g l = record {
  all : l.all ≡ 1024 + sum_below l.i (slice_index l.releases);
  few : l.all ≤ 1024 + l.i * 4294967295;
}
