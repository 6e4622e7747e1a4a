use Rattle.tlsf_lines.proofs.LabelSteps.{phase_ends}
use Rattle.tlsf_lines.proofs.labels.Labels.end_phase.Goals as goal

pub returns-clause-remembers : goal.returns-clause-remembers
returns-clause-remembers c = λ before known. phase_ends _ before (rw (← c.self.view_is) at known)
