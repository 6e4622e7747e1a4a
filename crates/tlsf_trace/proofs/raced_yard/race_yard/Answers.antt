use Rattle.tlsf_trace.proofs.Common.{refl, OverLanes, OverQueues}
use Rattle.tlsf_trace.proofs.RacedPhases.{has_raced}
use Rattle.tlsf_trace.proofs.raced_yard.race_yard.Goals as goal

pub returns-in-Ok : goal.returns-in-Ok
returns-in-Ok g c =
    has_raced c.args.yard (OverLanes c.in-OverLanes.workers) (OverLanes c.in-Ok.outcome.workers) _ _ c.in-OverLanes.is refl c.in-Ok.ensures.yard c.in-Ok.ensures.race

pub returns-in-Ok-race_queues : goal.returns-in-Ok-race_queues
returns-in-Ok-race_queues g c =
    has_raced c.args.yard (OverQueues c.in-OverQueues.workers) (OverQueues c.in-Ok-race_queues.outcome.workers) _ _ c.in-OverQueues.is refl c.in-Ok-race_queues.ensures.yard c.in-Ok-race_queues.ensures.race
