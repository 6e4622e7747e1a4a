use Rattle.tlsf_crew.proofs.Common.{length, IsLaid}
use Rattle.tlsf_crew.proofs.lanes.opening.lay_all.Given as goal

abbrev pub invariant-loop-i : goal.invariant-loop-i
invariant-loop-i g l = IsLaid l.workers (length l.fn.workers) l.words l.capacity l.i 0

abbrev pub invariant-loop-j : goal.invariant-loop-j
invariant-loop-j g l = IsLaid l.workers (length l.fn.workers) l.words l.capacity l.i l.j
