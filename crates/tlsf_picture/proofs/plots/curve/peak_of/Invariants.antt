use Rattle.tlsf_picture.specs.plots.Standings.{IsPeak}
use Rattle.tlsf_picture.proofs.plots.curve.peak_of.Given as goal

-- the peak among the points so far
abbrev pub invariant-loop-number : goal.invariant-loop-number
invariant-loop-number l = IsPeak l.points l.number l.peak
