use Rattle.tlsf_picture.proofs.Common.{take, string_bytes, Adds, all_told, chart_told}
use Rattle.tlsf_picture.proofs.plots.svg.write_charts.Given as goal

-- the charts so far are told
abbrev pub invariant-loop-number : goal.invariant-loop-number
invariant-loop-number l = Adds (all_told chart_told (take l.number l.charts)) (string_bytes l.fn.text) (string_bytes l.text)
