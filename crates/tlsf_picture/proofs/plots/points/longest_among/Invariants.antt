use Rattle.tlsf_picture.proofs.Common.{◌≡◌, take, longest_among}
use Rattle.tlsf_picture.proofs.plots.points.longest_among.Given as goal

-- the longest of those so far
abbrev pub invariant-loop-request : goal.invariant-loop-request
invariant-loop-request l = l.longest ≡ longest_among l.worker (take l.request-index l.requests)
