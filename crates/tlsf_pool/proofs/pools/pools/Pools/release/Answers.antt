use Rattle.tlsf_pool.proofs.Common.{part_named}
use Rattle.tlsf_pool.specs.pools.Parts.{Releases}
use Rattle.tlsf_pool.proofs.lemmas.pools.OnParts.{keeps_taken, named_part, on_part}
use Rattle.tlsf_pool.proofs.pools.pools.Pools.release.Goals as goal

pub returns-clause-releases : goal.returns-clause-releases
returns-clause-releases g c =
    let which = named_part c.self.inside.id c.self.inside.parts.items _ c.args.name c.in-Some.part c.in-Some.ensures c.deref.ensures.value in
    on_part c.in-Some.part c.self.invariant c.index_mut.ensures.value which.1 (keeps_taken c.args.name c.release.ensures.frame.keeps.is c.release.ensures.frame.keeps.stays c.release.ensures.releases.heap c.release.ensures.frame.limits)
    c.args.self.now c.self.view_is (λ q. part_named q c.args.name) which.0 (λ old new. Releases old new c.args.name c.release.result) (record { releases = c.release.ensures.releases; counts = c.release.ensures.returned; err = c.release.ensures.frame.err; kinds = c.release.ensures.frame.limits.kinds })

pub invariant_of-self : goal.invariant_of-self
invariant_of-self g c = (returns-clause-releases g c).pools
