use Rattle.std.proofs.Common.{length}
use Rattle.tlsf_crew.proofs.lemmas.queues.QueueWorlds.{settled_world}
use Rattle.tlsf_crew.proofs.queues.queue_settle.settle_queues.Goals as goal

pub returns-clause-world : goal.returns-clause-world
returns-clause-world g c = settled_world c.args.workers.now c.settle_each_queue.new.workers (length c.args.workers.now) c.requires c.settle_each_queue.ensures.settled
