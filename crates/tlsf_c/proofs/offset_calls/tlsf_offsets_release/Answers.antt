use Rattle.tlsf_c.proofs.Common.{sym, ◌∙◌}
use Rattle.tlsf_c.proofs.offset_calls.tlsf_offsets_release.Goals as goal

pub returns-in-Ok-clause-gone : goal.returns-in-Ok-clause-gone
returns-in-Ok-clause-gone c done span held same = c.in-Ok.ensures.gone span held (same ∙ sym c.name.ensures)
