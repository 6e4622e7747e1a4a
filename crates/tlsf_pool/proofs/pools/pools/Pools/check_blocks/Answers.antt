use Rattle.tlsf_pool.proofs.Common.{◌<◌, length, arith}
use Rattle.tlsf_pool.specs.pools.Parts.{Checks}
use Rattle.tlsf_pool.proofs.lemmas.pools.OnParts.{at_part, keeps_same}
use Rattle.tlsf_pool.proofs.pools.pools.Pools.check_blocks.Goals as goal

pub returns-clause-checks : goal.returns-clause-checks
returns-clause-checks g c =
    let within : c.args.part < length c.self.inside.parts.items = omega (arith, c.self.inside.parts.ok.0) in
    at_part c.args.part c.self.invariant c.index_mut.ensures.value within (keeps_same c.check_blocks.ensures.frame.keeps.is c.check_blocks.ensures.frame.keeps.stays c.check_blocks.ensures.frame.same)
    c.args.self.now c.self.view_is (λ old new. c.args.part < length c.args.self.now.parts → Checks old new c.args.from c.args.most c.check_blocks.result) (λ _. record { checks = c.check_blocks.ensures.checks; stored = c.check_blocks.ensures.stored; same = c.check_blocks.ensures.frame.same })

pub invariant_of-self : goal.invariant_of-self
invariant_of-self g c = (returns-clause-checks g c).pools
