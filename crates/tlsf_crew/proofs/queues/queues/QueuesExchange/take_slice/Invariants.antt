use Rattle.tlsf_crew.proofs.Common.{◌≡◌, ◌-◌, ◌≤◌, length, take, AsksQueue, queue_extents, PortsInTurn}
use Rattle.tlsf_crew.proofs.queues.queues.QueuesExchange.take_slice.Given as goal

abbrev pub invariant-loop-count : goal.invariant-loop-count
invariant-loop-count g l = record {
  few : l.count ≤ length l.places;
  turns : PortsInTurn AsksQueue l.fn.self l.self l._source (take l.count l.places);
  stays : queue_extents l.self ≡ queue_extents l.fn.self;
}

abbrev pub decreases-loop-count : goal.decreases-loop-count
decreases-loop-count g l = length l.places - l.count
