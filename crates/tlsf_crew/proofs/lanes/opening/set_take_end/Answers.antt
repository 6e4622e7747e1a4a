use Rattle.std.proofs.Common.{refl}
use Rattle.tlsf_crew.proofs.lanes.opening.set_take_end.Goals as goal

pub returns-clause-takes : goal.returns-clause-takes
returns-clause-takes g c = refl

pub returns-clause-same : goal.returns-clause-same
returns-clause-same g c = (refl, refl, refl)
