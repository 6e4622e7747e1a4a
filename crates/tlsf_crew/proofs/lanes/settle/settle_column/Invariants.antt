use Rattle.tlsf_crew.proofs.Common.{◌≡◌, map, lane_memory, ColumnSettled, KeepsWorld}
use Rattle.tlsf_crew.proofs.lanes.settle.settle_column.Given as goal

abbrev pub invariant-loop-i : goal.invariant-loop-i
invariant-loop-i g l = record {
  settled : ColumnSettled l.fn.workers l.workers l.i l.j;
  keeps : KeepsWorld l.fn.workers l.workers;
  stays : map lane_memory l.workers ≡ map lane_memory l.fn.workers;
}
