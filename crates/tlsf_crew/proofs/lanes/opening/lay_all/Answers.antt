use Rattle.tlsf_crew.proofs.Common.{◌≡◌, length, subst, ℕ, arith, IsLaid}
use Rattle.tlsf_crew.proofs.lemmas.lanes.NewLanes.{lane_skipped, row_laid}
use Rattle.tlsf_crew.proofs.lanes.opening.lay_all.Goals as goal
use Rattle.tlsf_crew.proofs.lanes.opening.lay_all.Goals.{then-i-j+in_ok-lay_lane, else-i-j}

pub loop-j-preserved : goal.loop-j-preserved
loop-j-preserved g c =
    elim c.if-i-j.branch [
      | then-i-j+in_ok-lay_lane w ↦ rw (w.workers-is, ← c.loop-j.invariant.len) w.in_ok-lay_lane.ensures
      | else-i-j w ↦ rw w.workers-is (lane_skipped _ _ _ _ _ _ w.if-i-j.false c.loop-j.invariant)
    ]

pub loop-i-preserved : goal.loop-i-preserved
loop-i-preserved g c =
    let n = length c.args.workers.now in
    let i = c.loop-j.invariant in
    let outer = c.loop-i.invariant in
    let e : c.loop-j.j ≡ n = omega (arith, i.len, outer.len) in
    row_laid _ _ _ _ _ (subst (λ (k : ℕ). IsLaid c.loop-j.workers n c.args.words c.args.capacity c.loop-i.i k) e i)

pub returns : goal.returns
returns g c =
    let n = length c.args.workers.now in
    let i = c.loop-i.invariant in
    let e : c.loop-i.i ≡ n = omega (arith, i.len) in
    subst (λ (k : ℕ). IsLaid c.loop-i.workers n c.args.words c.args.capacity k 0) e i
