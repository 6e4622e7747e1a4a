use Rattle.std.proofs.Common.{refl}
use Rattle.tlsf_lines.proofs.CutSteps.{left_over}
use Rattle.tlsf_lines.proofs.reading.parse_phase.Goals as goal

pub returns-in-Some : goal.returns-in-Some
returns-in-Some c = λ workers. rw (c.in-Some.is, left_over workers c.in-Some.field-0.now) refl
