use Rattle.tlsf_crew.proofs.lemmas.worker.PortsKept.{release_keeps}
use Rattle.tlsf_crew.proofs.lemmas.lanes.LaneTurns.{lanes_keep_yards}
use Rattle.tlsf_crew.proofs.lanes.lane_worker.Worker+SLI.release.Goals as goal

pub returns-clause-works : goal.returns-clause-works
returns-clause-works g c = record { yard = release_keeps _ _ _ lanes_keep_yards _ _ c.args.name _ c.release.ensures.releases; within = c.release.ensures.within }
