use Rattle.std.proofs.Common.{◌≤◌, ◌^◌}
use Rattle.tlsf_map.proofs.density.live_among.Given as goal

abbrev pub invariant-loop-drawn : goal.invariant-loop-drawn
invariant-loop-drawn l = l.live ≤ 2 ^ 14
