use Rattle.tlsf_crew.proofs.lemmas.lanes.YardKept.{heap_keeps}
use Rattle.tlsf_crew.proofs.lanes.lane_worker.LanesPorts.heap_keeps.Goals as goal

pub returns : goal.returns
returns c = λ sli a v same kept. heap_keeps a v same kept
