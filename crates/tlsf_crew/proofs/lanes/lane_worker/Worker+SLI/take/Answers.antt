use Rattle.std.proofs.Common.{arith}
use Rattle.tlsf_crew.proofs.lemmas.lanes.YardKept.{same_keeps}
use Rattle.tlsf_crew.proofs.lemmas.lanes.LaneTurns.{one_turn_keeps}
use Rattle.tlsf_crew.proofs.lemmas.worker.Works.{works_none}
use Rattle.tlsf_crew.proofs.lanes.lane_worker.Worker+SLI.take.Goals as goal

pub returns-then-not-has_source-clause-works : goal.returns-then-not-has_source-clause-works
returns-then-not-has_source-clause-works g c = record { yard = same_keeps _; within = works_none _ _ _ }

pub returns-clause-works : goal.returns-clause-works
returns-clause-works g c = record { yard = one_turn_keeps _ _ c.args.from _ c.take_next.ensures.taken; within = c.take_next.ensures.within }

pub take_next-requires : goal.take_next-requires
take_next-requires g c =
    (omega arith, c.has_source.ensures.yes c.if-not-has_source.false)
