use Rattle.tlsf_crew.proofs.Common.{◌≡◌, map, lane_memory, EachColumnSettled, KeepsWorld}
use Rattle.tlsf_crew.proofs.lanes.settle.settle.Given as goal

abbrev pub invariant-loop-j : goal.invariant-loop-j
invariant-loop-j g l = record {
  settled : EachColumnSettled l.fn.workers l.workers l.j;
  keeps : KeepsWorld l.fn.workers l.workers;
  stays : map lane_memory l.workers ≡ map lane_memory l.fn.workers;
}
