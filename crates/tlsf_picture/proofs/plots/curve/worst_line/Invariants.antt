use Rattle.tlsf_picture.proofs.Common.{IsLook}
use Rattle.tlsf_picture.proofs.plots.curve.worst_line.Given as goal

-- the line to look at among the points so far
abbrev pub invariant-loop-number : goal.invariant-loop-number
invariant-loop-number l = IsLook l.len l.points l.number l.worst
