use Rattle.tlsf_crew.proofs.Common.{◌≡◌, ◌∙◌, length, ℕ, subst, refl, arith, ColumnSettled}
use Rattle.tlsf_crew.proofs.lemmas.lanes.Across.{lane_keeps}
use Rattle.tlsf_crew.proofs.lemmas.lanes.LaneSlots.{step_memory}
use Rattle.tlsf_crew.proofs.lemmas.lanes.LaneByLane.{column_first, column_step, column_skip, keeps_none, keeps_then}
use Rattle.tlsf_crew.proofs.lanes.settle.settle_column.Goals as goal
use Rattle.tlsf_crew.proofs.lanes.settle.settle_column.Goals.{then-i-j, else-i-j}

pub loop-i-init : goal.loop-i-init
loop-i-init g c = record { settled = column_first _ _; keeps = keeps_none _ c.requires.yard; stays = refl }

pub settle_lane-requires : goal.settle_lane-requires
settle_lane-requires g c =
    let n = c.loop-i.invariant.settled.len in (
      omega arith,
      (record { inside = (omega arith, omega arith); apart = c.if-i-j.true }, c.loop-i.invariant.keeps.yard.lanes c.loop-i.i c.args.j (omega arith) (omega arith) c.if-i-j.true),
    )

pub loop-i-preserved : goal.loop-i-preserved
loop-i-preserved g c =
    let i = c.loop-i.invariant in
    elim c.if-i-j.branch [
      | then-i-j w ↦ record {
        settled = rw w.workers-is (column_step _ _ _ _ _ i.settled w.if-i-j.true w.settle_lane.ensures);
        keeps = rw w.workers-is (keeps_then _ _ _ i.keeps (lane_keeps _ _ _ _ w.if-i-j.true w.settle_lane.ensures i.keeps.yard));
        stays = rw w.workers-is (step_memory _ _ _ _ w.if-i-j.true w.settle_lane.ensures ∙ i.stays);
      }
      | else-i-j w ↦ record {
        settled = rw w.workers-is (column_skip _ _ _ _ i.settled w.if-i-j.false);
        keeps = rw w.workers-is i.keeps;
        stays = rw w.workers-is i.stays;
      }
    ]

pub returns-clause-settled : goal.returns-clause-settled
returns-clause-settled g c =
    let i = c.loop-i.invariant.settled in
    let e : c.loop-i.i ≡ length c.args.workers.now = omega (arith, i.len) in
    subst (λ (k : ℕ). ColumnSettled c.args.workers.now c.loop-i.workers k c.args.j) e i
