use Rattle.tlsf_pool.proofs.Common.{◌<◌, length, arith}
use Rattle.tlsf_pool.specs.pools.Parts.{Reports}
use Rattle.tlsf_pool.proofs.lemmas.pools.OnParts.{at_part, keeps_same}
use Rattle.tlsf_pool.proofs.pools.pools.Pools.report.Goals as goal

pub returns-clause-reports : goal.returns-clause-reports
returns-clause-reports g c =
    let within : c.args.part < length c.self.inside.parts.items = omega (arith, c.self.inside.parts.ok.0) in
    at_part c.args.part c.self.invariant c.index_mut.ensures.value within (keeps_same c.report.ensures.frame.keeps.is c.report.ensures.frame.keeps.stays c.report.ensures.frame.same)
    c.args.self.now c.self.view_is (λ old new. Reports g.row.SLI old new c.report.result) (record { reports = c.report.ensures.reports; held = c.report.ensures.tells.held; grant = c.report.ensures.tells.grant; same = c.report.ensures.frame.same })

pub invariant_of-self : goal.invariant_of-self
invariant_of-self g c = (returns-clause-reports g c).pools
