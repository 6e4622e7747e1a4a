use Rattle.tlsf_picture.proofs.Common.{◌≡◌, take, worst_of}
use Rattle.tlsf_picture.proofs.plots.curve.worst_of.Given as goal

-- the worst of those so far
abbrev pub invariant-loop-point : goal.invariant-loop-point
invariant-loop-point l = l.worst ≡ worst_of l.words (take l.point-index l.points)
