use Rattle.tlsf_crew.proofs.lemmas.queues.QueueDrains.{taken_keeps}
use Rattle.tlsf_crew.proofs.queues.queues.QueueWorker+SLI.take.Goals as goal

pub returns-clause-works : goal.returns-clause-works
returns-clause-works g c = record { yard = taken_keeps _ _ 0 _ c.take_next.ensures.taken; within = c.take_next.ensures.within }
