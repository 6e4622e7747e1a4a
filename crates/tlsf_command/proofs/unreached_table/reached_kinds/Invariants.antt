use Rattle.tlsf_command.proofs.Common.{◌<◌, ◌-◌, length, take, AreReached}
use Rattle.tlsf_command.proofs.unreached_table.reached_kinds.Given as goal

abbrev pub invariant-loop-reached : goal.invariant-loop-reached
invariant-loop-reached g l = record {
  below : l.reached < length l.kinds;
  front : AreReached g.row.SLI (take l.reached l.kinds);
}

abbrev pub decreases-loop-reached : goal.decreases-loop-reached
decreases-loop-reached g l = length l.kinds - l.reached
