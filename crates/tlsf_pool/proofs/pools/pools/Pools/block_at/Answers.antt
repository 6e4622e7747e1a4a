use Rattle.tlsf_pool.proofs.Common.{◌<◌, length, arith}
use Rattle.tlsf_pool.specs.pools.Parts.{Looks}
use Rattle.tlsf_pool.proofs.lemmas.pools.OnParts.{at_part, keeps_same}
use Rattle.tlsf_pool.proofs.pools.pools.Pools.block_at.Goals as goal

pub returns-clause-looks : goal.returns-clause-looks
returns-clause-looks g c =
    let within : c.args.part < length c.self.inside.parts.items = omega (arith, c.self.inside.parts.ok.0) in
    at_part c.args.part c.self.invariant c.index_mut.ensures.value within (keeps_same c.block_at.ensures.frame.keeps.is c.block_at.ensures.frame.keeps.stays c.block_at.ensures.frame.same)
    c.args.self.now c.self.view_is (λ old new. c.args.part < length c.args.self.now.parts → Looks old new c.args.at c.block_at.result) (λ _. record { looks = c.block_at.ensures.looks; same = c.block_at.ensures.frame.same })

pub invariant_of-self : goal.invariant_of-self
invariant_of-self g c = (returns-clause-looks g c).pools
