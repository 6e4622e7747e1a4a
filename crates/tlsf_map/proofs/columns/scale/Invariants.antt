use Rattle.tlsf_map.proofs.Common.{◌-◌, ◌^◌, IsScale}
use Rattle.tlsf_map.proofs.columns.scale.Given as goal

abbrev pub invariant-loop-scale : goal.invariant-loop-scale
invariant-loop-scale l = IsScale l.scale

abbrev pub decreases-loop-scale : goal.decreases-loop-scale
decreases-loop-scale l = 2 ^ 14 - l.scale
