use Rattle.tlsf_crew.proofs.lemmas.queues.QueueDrains.{all_queue_drained}
use Rattle.tlsf_crew.proofs.queues.queues.QueueWorker+SLI.drain.Goals as goal

pub returns-clause-drained : goal.returns-clause-drained
returns-clause-drained g c =
    let d = c.drain_source.ensures.drained in
    (all_queue_drained _ _ c.args.self.now c.drain_source.new.worker _ c.drain_source.new.notes c.args.most d.0 c.drain_source.result d.1 d.2).0

pub returns-clause-works : goal.returns-clause-works
returns-clause-works g c =
    let d = c.drain_source.ensures.drained in
    record { yard = (all_queue_drained _ _ c.args.self.now c.drain_source.new.worker _ c.drain_source.new.notes c.args.most d.0 c.drain_source.result d.1 d.2).1; within = c.drain_source.ensures.bounds.within }
