use Rattle.tlsf_pool.proofs.Common.{rules, IsTabled}
use Rattle.tlsf_pool.proofs.lemmas.pools.Answering.{few_held}
use Rattle.tlsf_pool.proofs.pools.table.TablePoolTablePoolCalls.held.Goals as goal

pub returns-clause-few : goal.returns-clause-few
returns-clause-few g c =
    let is : IsTabled g.row.SLI c.args.self.now = search rules in
    search (rules, few_held g.row.SLI c.args.self.now.heap c.args.self.now.ledger is.holds c.args.row)
