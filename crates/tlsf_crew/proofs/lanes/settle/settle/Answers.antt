use Rattle.std.proofs.Common.{◌∙◌, refl, arith}
use Rattle.tlsf_crew.proofs.lemmas.lanes.LaneByLane.{keeps_none, keeps_then, yard_first, yard_step}
use Rattle.tlsf_crew.proofs.lanes.settle.settle.Goals as goal

pub loop-j-init : goal.loop-j-init
loop-j-init g c = record { settled = yard_first _; keeps = keeps_none _ c.requires; stays = refl }

pub loop-j-preserved : goal.loop-j-preserved
loop-j-preserved g c =
    let i = c.loop-j.invariant in
    record {
      settled = yard_step _ _ _ _ i.settled c.settle_column.ensures.settled;
      keeps = keeps_then _ _ _ i.keeps c.settle_column.ensures.keeps;
      stays = c.settle_column.ensures.stays ∙ i.stays;
    }

pub returns-clause-settled : goal.returns-clause-settled
returns-clause-settled g c =
    let i = c.loop-j.invariant.settled in
    λ x y x_in y_in ne. i.done x y (omega (arith, i.len)) x_in ne
