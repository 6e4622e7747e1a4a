use Rattle.tlsf_crew.proofs.Common.{◌≡◌, vec_capacity, EachQueueSettled}
use Rattle.tlsf_crew.proofs.queues.queue_settle.settle_each_queue.Given as goal

abbrev pub invariant-loop-j : goal.invariant-loop-j
invariant-loop-j g l = record {
  settled : EachQueueSettled l.fn.workers l.j l.workers;
  capacity : vec_capacity l.posters ≡ vec_capacity l.fn.posters;
}
