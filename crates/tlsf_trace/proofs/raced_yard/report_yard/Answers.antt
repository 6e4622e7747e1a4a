use Rattle.tlsf_trace.proofs.Common.{◌≡◌, map, heap_of, world_in, OverLanes, OverQueues}
use Rattle.tlsf_trace.proofs.RacedPhases.{heaps_are}
use Rattle.tlsf_trace.proofs.raced_yard.report_yard.Goals as goal

pub returns-in-OverLanes : goal.returns-in-OverLanes
returns-in-OverLanes g c =
    let heaps : map heap_of c.in-OverLanes.workers.items ≡ (world_in c.args.yard.now).heaps = rw c.in-OverLanes.is (heaps_are (OverLanes c.in-OverLanes.workers)) in
    rw (c.deref_mut.ensures.value, heaps) at c.write_reports.ensures

pub returns-in-OverQueues : goal.returns-in-OverQueues
returns-in-OverQueues g c =
    let heaps : map heap_of c.in-OverQueues.workers.items ≡ (world_in c.args.yard.now).heaps = rw c.in-OverQueues.is (heaps_are (OverQueues c.in-OverQueues.workers)) in
    rw (c.deref_mut-in-OverQueues.ensures.value, heaps) at c.write_reports-in-OverQueues.ensures
