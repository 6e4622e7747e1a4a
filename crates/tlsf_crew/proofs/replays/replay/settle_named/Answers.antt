use Rattle.std.proofs.Common.{◌≡◌}
use Rattle.tlsf_crew.proofs.lemmas.lanes.Across.{lane_keeps}
use Rattle.tlsf_crew.proofs.lemmas.lanes.LaneByLane.{step_settled}
use Rattle.tlsf_crew.proofs.replays.replay.settle_named.Goals as goal

pub returns-in_default-clause-settled : goal.returns-in_default-clause-settled
returns-in_default-clause-settled g c = λ k e. absurd cc

pub returns-then-to-workers-clause-settled : goal.returns-then-to-workers-clause-settled
returns-then-to-workers-clause-settled g c = λ k e near ne.
    let q : k ≡ c.in-Some.name = cc in
    rw q (step_settled _ _ _ _ (rw (← q) ne) c.settle_lane.ensures)

pub returns-then-to-workers-clause-keeps : goal.returns-then-to-workers-clause-keeps
returns-then-to-workers-clause-keeps g c = lane_keeps _ _ _ _ c.if-at-to.true c.settle_lane.ensures c.requires.yard
