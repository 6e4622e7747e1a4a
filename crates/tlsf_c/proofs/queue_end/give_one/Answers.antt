use Rattle.tlsf_c.proofs.Giving.{popped}
use Rattle.tlsf_c.proofs.queue_end.give_one.Goals as goal

pub returns-clause-gives : goal.returns-clause-gives
returns-clause-gives c = popped c.args.end.now _ c.pop.result c.pop.ensures.items
