use Rattle.tlsf_pool.proofs.lemmas.sizes.Cuts.{rest_best, row_done}
use Rattle.tlsf_pool.proofs.sizes.split.allow_one_more.Goals as goal

pub best_of-requires-clause-best : goal.best_of-requires-clause-best
best_of-requires-clause-best g c = rw c.split_at.ensures.back (rest_best g.row.SLI c.args.heaps c.loop-at.at c.args.kinds.now c.loop-at.row c.loop-at.invariant.long c.loop-at-test.true c.loop-at.invariant.before)

pub returns : goal.returns
returns g c = row_done g.row.SLI c.args.heaps c.loop-at.at c.args.kinds.now c.loop-at.row c.loop-at.invariant.long c.loop-at-test.false c.loop-at.invariant.more c.loop-at.invariant.before
