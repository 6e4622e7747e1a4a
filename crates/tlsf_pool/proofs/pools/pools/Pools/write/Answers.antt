use Rattle.tlsf_pool.proofs.Common.{part_named}
use Rattle.tlsf_pool.specs.pools.Parts.{Writes}
use Rattle.tlsf_pool.proofs.lemmas.pools.OnParts.{keeps_written, named_part, on_part}
use Rattle.tlsf_pool.proofs.pools.pools.Pools.write.Goals as goal

pub returns-clause-writes : goal.returns-clause-writes
returns-clause-writes g c =
    let which = named_part c.self.inside.id c.self.inside.parts.items _ c.args.name c.in-Some.part c.in-Some.ensures c.deref.ensures.value in
    on_part c.in-Some.part c.self.invariant c.index_mut.ensures.value which.1 (keeps_written c.args.name c.args.at c.args.bytes.now c.write.ensures.frame.keeps.is c.write.ensures.frame.keeps.stays c.write.ensures.writes.heap c.write.ensures.frame.ledger)
    c.args.self.now c.self.view_is (λ q. part_named q c.args.name) which.0 (λ old new. Writes old new c.args.name c.args.at c.args.bytes.now c.write.result) (record { writes = c.write.ensures.writes; ledger = c.write.ensures.frame.ledger })

pub invariant_of-self : goal.invariant_of-self
invariant_of-self g c = (returns-clause-writes g c).pools
