use Rattle.tlsf_picture.proofs.Common.{◌≡◌, ◌<◌, map, vec_len, range_with_len, IsYard, IsScript, Trace, point_at, Stands}
use Rattle.tlsf_picture.proofs.plots.points.points_of.Given as goal

-- the trace has run up to this line, and the points so far stand
abbrev pub invariant-loop-number : goal.invariant-loop-number
invariant-loop-number g l = record {
  yard : IsYard l.player.workers.items;
  heap : l.heap < vec_len l.player.workers;
  count : vec_len l.points ≡ l.number;
  so_far : (trace : Trace) → IsScript l.script trace → Stands l.number trace l.player × (l.points.items ≡ map (point_at g.row.SLI trace l.heap) (range_with_len 1 l.number));
}
