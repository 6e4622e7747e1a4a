use Rattle.tlsf_crew.proofs.Common.{◌≡◌, ◌*◌, ◌≤◌, sum_below, ready_from}
use Rattle.tlsf_crew.proofs.scripts.room.count_for.Given as goal

abbrev pub invariant-loop-i : goal.invariant-loop-i
invariant-loop-i g l = record {
  count : l.count ≡ sum_below l.i (ready_from l.worker);
  most : l.count ≤ l.i * 4294967295;
}
