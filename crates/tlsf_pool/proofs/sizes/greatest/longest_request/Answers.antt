use Rattle.tlsf_pool.proofs.lemmas.sizes.Bounds.{none_longer}
use Rattle.tlsf_pool.proofs.sizes.greatest.longest_request.Goals as goal

pub returns-clause-greatest : goal.returns-clause-greatest
returns-clause-greatest g c = λ len. none_longer g.row.SLI c.requires c.args.most c.loop-longest.longest c.loop-longest.above len c.loop-longest-test.false c.loop-longest.invariant.passed
