use Rattle.std.proofs.Common.{◌-◌, ◌≤◌, ◌^◌}
use Rattle.tlsf_map.specs.Layouts.{IsRow}
use Rattle.tlsf_map.proofs.grid.Grid.of.Given as goal

abbrev pub invariant-loop-grid : goal.invariant-loop-grid
invariant-loop-grid l = IsRow l.grid.0 × (l.grid.1.0 ≤ 2 ^ 32)

abbrev pub decreases-loop-grid : goal.decreases-loop-grid
decreases-loop-grid l = 2 ^ 18 - l.grid.0
