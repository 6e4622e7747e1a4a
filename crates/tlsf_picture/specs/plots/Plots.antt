-- The plot of a trace.
use Rattle.std.specs.Prelude.{◌≡◌, ℕ, ◌+◌, List, length}
use Rattle.std.specs.List.{AllZip, range_with_len}
use Rattle.tlsf_lines.specs.Trace.{Trace}
use Rattle.tlsf_map.specs.Told.{Tells}
use Rattle.tlsf_picture.specs.plots.Curves.{curve_of, stride_for}
use Rattle.tlsf_picture.specs.plots.Points.{longest_of, points_of}
use Rattle.tlsf_picture.specs.declared.form.Form.{Form}
use Rattle.tlsf_picture.specs.declared.form.Form.TheVariants.{Svg, Text}
use Rattle.tlsf_picture.specs.plots.Standings.{IsLook, IsPeak}
use Rattle.tlsf_picture.specs.plots.Told.{plot_told}
use Rattle.tlsf_picture.specs.declared.plots.chart.Chart.{Chart}
use Rattle.tlsf_picture.specs.declared.plots.point.Point.{Point}
use Rattle.tlsf_trace.specs.Output.{level_in}

-- the points of heap j of a trace, at the level that its header names
abbrev pub heap_points : Trace → ℕ → List Point
heap_points trace j = points_of (level_in trace.header) trace j

-- the chart of heap j of a trace, of at most this many points
pub record IsChart (most : ℕ) (trace : Trace) (j : ℕ) (chart : Chart) : Type 0 where
  pub heap : chart.heap ≡ j
  pub words : chart.words ≡ trace.header.words
  pub lines : chart.lines ≡ length trace.lines + 2
  pub stride : chart.stride ≡ stride_for most (length trace.lines + 2)
  pub longest : chart.longest ≡ longest_of j trace.lines
  pub look : IsLook chart.longest (heap_points trace j) (length trace.lines + 2) chart.look
  pub peak : IsPeak (heap_points trace j) (length trace.lines + 2) chart.peak
  pub curve : chart.curve.items ≡ curve_of trace.header.words chart.stride (heap_points trace j)

-- a chart for each heap, in rising number
abbrev pub AreCharts : ℕ → Trace → List Chart → Type 0
AreCharts most trace charts = AllZip (IsChart most trace) (range_with_len 0 trace.header.workers) charts

-- the most points of a line: in an SVG file, and in the characters of a terminal
abbrev pub most_points : Form → ℕ
most_points Svg = 2000
most_points Text = 56

-- the text tells of the charts of the heaps of a trace
pub record Plots (form : Form) (trace : Trace) (text : List ℕ) : Type 0 where
  pub charts : List Chart
  pub charted : AreCharts (most_points form) trace charts
  pub plotted : Tells (plot_told form charts) text
