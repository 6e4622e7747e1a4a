use Rattle.tlsf_picture.proofs.Common.{◌+◌, List, sym, subst, arith, AllZip, range_with_len, IsChart}
use Rattle.tlsf_picture.proofs.Charts.{one_more}
use Rattle.tlsf_picture.specs.declared.plots.chart.Chart.{Chart}
use Rattle.tlsf_picture.proofs.plots.plotting.charts_at.Goals as goal

pub loop-heap-preserved : goal.loop-heap-preserved
loop-heap-preserved g c =
    let inv = c.loop-heap.invariant in
    let heap = c.loop-heap.heap in
    record {
      count = omega (arith, c.in_ok-push.ensures.len, inv.count);
      charted = λ trace level is. subst (λ (charts : List Chart). AllZip (IsChart c.args.most trace) (range_with_len 0 (heap + 1)) charts) (sym c.in_ok-push.ensures.items)
          (one_more (IsChart c.args.most trace) heap c.loop-heap.charts.items c.in_ok-chart_of.field-0 (inv.charted trace level is) (c.in_ok-chart_of.ensures trace level is));
    }
