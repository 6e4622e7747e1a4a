use Rattle.tlsf_crew.proofs.Common.{◌∙◌, Some, sym, ap, arith, slice_get-get_or, ready_below, ready_in}
use Rattle.tlsf_crew.proofs.lemmas.lanes.Pending.{worker_ready}
use Rattle.tlsf_crew.proofs.scripts.room.count_ready.Goals as goal

pub loop-worker-preserved : goal.loop-worker-preserved
loop-worker-preserved g c =
    let i = c.loop-worker.invariant in
    let r = c.count_for-count.ensures in
    let got = slice_get-get_or c.args.workers.now c.loop-worker.worker-index c.worker-item.result c.loop-worker-test.true ∙ ap Some (sym c.worker-item.is) in
    let more = worker_ready c.args.workers.now c.loop-worker.worker-index c.worker-item.result got in
    record { count = omega (arith, i.count, r.count, more); most = omega (arith, i.most, r.most) }

pub returns-clause-count : goal.returns-clause-count
unfolding ready_in
returns-clause-count g c =
    c.loop-worker.invariant.count ∙ ap (ready_below c.args.workers.now) (omega arith)
