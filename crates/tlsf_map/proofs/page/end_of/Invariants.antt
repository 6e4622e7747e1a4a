use Rattle.std.proofs.Common.{◌+◌, ◌*◌, ◌≤◌, ◌^◌}
use Rattle.tlsf_map.proofs.page.end_of.Given as goal

abbrev pub invariant-loop-number : goal.invariant-loop-number
invariant-loop-number l = l.y ≤ 1088 + l.number * 2 ^ 46
