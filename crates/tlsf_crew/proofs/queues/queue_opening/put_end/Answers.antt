use Rattle.std.proofs.Common.{refl}
use Rattle.tlsf_crew.proofs.queues.queue_opening.put_end.Goals as goal

pub returns-clause-posts : goal.returns-clause-posts
returns-clause-posts g c = refl

pub returns-clause-same : goal.returns-clause-same
returns-clause-same g c = (refl, refl, refl)
