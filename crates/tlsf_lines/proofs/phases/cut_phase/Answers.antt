use Rattle.std.proofs.Common.{rules}
use Rattle.tlsf_lines.proofs.PhaseCuts.{phase_at}
use Rattle.tlsf_lines.proofs.phases.cut_phase.Goals as goal

pub returns-then-not-is_call-clause-phases : goal.returns-then-not-is_call-clause-phases
returns-then-not-is_call-clause-phases c =
    rw (c.split_at.ensures.front, c.split_at-then-not-is_call.ensures.back, c.split_at.ensures.back)
    (phase_at c.args.lines.now c.loop-i.i c.loop-i.invariant (search rules) (search rules))
