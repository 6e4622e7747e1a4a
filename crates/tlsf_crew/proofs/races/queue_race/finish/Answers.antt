use Rattle.std.proofs.Common.{arith}
use Rattle.tlsf_crew.proofs.lemmas.races.QueueGathering.{each_knows_some}
use Rattle.tlsf_crew.proofs.lemmas.races.QueueLast.{drained_yard}
use Rattle.tlsf_crew.proofs.races.queue_race.finish.Goals as goal

pub drain_all-requires : goal.drain_all-requires
drain_all-requires g c = (
  omega arith,
  (
    each_knows_some c.settle_each_queue.new.workers c.settle_each_queue.ensures.settled.yard,
    record { count = omega (arith, c.requires.records.count, c.settle_each_queue.ensures.settled.count); places = c.requires.records.places },
  ),
)

pub settle_each_queue-requires-2 : goal.settle_each_queue-requires-2
settle_each_queue-requires-2 g c = (
  omega arith,
  (
    drained_yard c.settle_each_queue.new.workers _ _ c.drain_all.new.workers c.settle_each_queue.ensures.settled.yard c.drain_all.ensures.drained,
    omega arith,
  ),
)

pub returns-clause-finished : goal.returns-clause-finished
returns-clause-finished g c = record {
  settled = c.settle_each_queue.new.workers;
  emptied = c.drain_all.new.workers;
  first = c.settle_each_queue.ensures.settled;
  drained = c.drain_all.ensures.drained;
  last = c.settle_each_queue-2.ensures.settled;
}
