use Rattle.tlsf_picture.proofs.Common.{◌≡◌, vec_len, AllZip, range_with_len, Trace, IsScript, IsChart, level_in}
use Rattle.tlsf_picture.proofs.plots.plotting.charts_at.Given as goal

-- the heaps below this number have their charts
abbrev pub invariant-loop-heap : goal.invariant-loop-heap
invariant-loop-heap g l = record {
  count : vec_len l.charts ≡ l.heap;
  charted : (trace : Trace) → level_in trace.header ≡ g.row.SLI → IsScript l.script trace → AllZip (IsChart l.most trace) (range_with_len 0 l.heap) l.charts.items;
}
