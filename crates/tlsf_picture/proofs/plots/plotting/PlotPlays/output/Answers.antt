use Rattle.tlsf_picture.proofs.Common.{ℕ, subst, AreCharts}
use Rattle.tlsf_map.proofs.Telling.{tells_whole}
use Rattle.tlsf_picture.proofs.plots.plotting.PlotPlays.output.Goals as goal

pub returns : goal.returns
returns g c = λ trace level is. record {
  charts = c.in_ok-charts.charts.items;
  charted = subst (λ (most : ℕ). AreCharts most trace c.in_ok-charts.charts.items) c.most_points.ensures.most (c.in_ok-charts.ensures.charts trace level is);
  plotted = tells_whole _ _ (rw (c.deref.ensures.value, c.new-text.ensures.bytes) at c.in_ok-write_plot.ensures);
}
