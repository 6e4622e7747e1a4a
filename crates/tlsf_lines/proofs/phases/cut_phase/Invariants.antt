use Rattle.tlsf_lines.proofs.PhaseCuts.{AreCalls}
use Rattle.tlsf_lines.proofs.phases.cut_phase.Given as goal

-- the lines so far are calls
abbrev pub invariant-loop-i : goal.invariant-loop-i
invariant-loop-i l = AreCalls l.lines l.i
