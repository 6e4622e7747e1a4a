use Rattle.tlsf_pool.proofs.Common.{part_named}
use Rattle.tlsf_pool.specs.pools.Parts.{AsksLive}
use Rattle.tlsf_pool.proofs.lemmas.pools.OnParts.{keeps_same, named_part, on_part}
use Rattle.tlsf_pool.proofs.pools.pools.Pools.is_live.Goals as goal

pub returns-clause-asks : goal.returns-clause-asks
returns-clause-asks g c =
    let which = named_part c.self.inside.id c.self.inside.parts.items _ c.args.name c.in-Some.part c.in-Some.ensures c.deref.ensures.value in
    on_part c.in-Some.part c.self.invariant c.index_mut.ensures.value which.1 (keeps_same c.is_live.ensures.frame.keeps.is c.is_live.ensures.frame.keeps.stays c.is_live.ensures.frame.same)
    c.args.self.now c.self.view_is (λ q. part_named q c.args.name) which.0 (λ old new. AsksLive old new c.args.name c.is_live.result) (record { asks = c.is_live.ensures.asks; same = c.is_live.ensures.frame.same })

pub invariant_of-self : goal.invariant_of-self
invariant_of-self g c = (returns-clause-asks g c).pools
