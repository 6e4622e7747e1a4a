use Rattle.tlsf_pool.proofs.lemmas.pools.Answering.{len_is}
use Rattle.tlsf_pool.proofs.pools.table.TableLedger.look.Goals as goal

pub returns-in-Ok-clause-answer : goal.returns-in-Ok-clause-answer
returns-in-Ok-clause-answer g c = len_is c.args.heap.now.heap c.args.name c.in-Ok.len c.in-Ok.ensures.locates.payload
