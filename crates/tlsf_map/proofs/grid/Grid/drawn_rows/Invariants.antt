use Rattle.std.proofs.Common.{◌≤◌, ◌^◌}
use Rattle.tlsf_map.proofs.grid.Grid.drawn_rows.Given as goal

abbrev pub invariant-loop-drawn : goal.invariant-loop-drawn
invariant-loop-drawn l = l.rows ≤ 2 ^ 35
