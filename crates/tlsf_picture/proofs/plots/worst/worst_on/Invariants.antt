use Rattle.tlsf_picture.proofs.Common.{◌≡◌, Trace, IsScript, level_in}
use Rattle.tlsf_picture.specs.plots.Worst.{IsWorstOf}
use Rattle.tlsf_picture.proofs.plots.worst.worst_on.Given as goal

-- the line to look at of the heaps below this number
abbrev pub invariant-loop-heap : goal.invariant-loop-heap
invariant-loop-heap g l = (trace : Trace) → level_in trace.header ≡ g.row.SLI → IsScript l.script trace → IsWorstOf trace l.heap l.worst
