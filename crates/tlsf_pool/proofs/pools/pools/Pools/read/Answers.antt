use Rattle.tlsf_pool.proofs.Common.{part_named}
use Rattle.tlsf_pool.specs.pools.Parts.{Reads}
use Rattle.tlsf_pool.proofs.lemmas.pools.OnParts.{keeps_same, named_part, on_part}
use Rattle.tlsf_pool.proofs.pools.pools.Pools.read.Goals as goal

pub returns-clause-reads : goal.returns-clause-reads
returns-clause-reads g c =
    let which = named_part c.self.inside.id c.self.inside.parts.items _ c.args.name c.in-Some.part c.in-Some.ensures c.deref.ensures.value in
    on_part c.in-Some.part c.self.invariant c.index_mut.ensures.value which.1 (keeps_same c.read.ensures.frame.keeps.is c.read.ensures.frame.keeps.stays c.read.ensures.frame.same)
    c.args.self.now c.self.view_is (λ q. part_named q c.args.name) which.0 (λ old new. Reads old new c.args.name c.args.at c.args.out.now c.read.new.out c.read.result) (record { reads = c.read.ensures.reads; same = c.read.ensures.frame.same })

pub invariant_of-self : goal.invariant_of-self
invariant_of-self g c = (returns-clause-reads g c).pools
