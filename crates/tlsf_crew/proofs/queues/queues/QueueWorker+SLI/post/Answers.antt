use Rattle.tlsf_crew.proofs.lemmas.worker.PortsKept.{post_keeps}
use Rattle.tlsf_crew.proofs.lemmas.worker.Works.{works_kept}
use Rattle.tlsf_crew.proofs.lemmas.queues.QueueDrains.{queues_keep_yards}
use Rattle.tlsf_crew.proofs.queues.queues.QueueWorker+SLI.post.Goals as goal

pub returns-clause-works : goal.returns-clause-works
returns-clause-works g c = record { yard = post_keeps _ _ _ queues_keep_yards _ _ c.args.name _ c.post.ensures.posts; within = works_kept _ _ _ _ c.post.ensures.posts.heap c.post.ensures.stays.1 }
