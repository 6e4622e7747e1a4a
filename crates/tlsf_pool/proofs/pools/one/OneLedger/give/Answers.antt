use Rattle.tlsf_pool.proofs.Common.{rules, ◌<◌, ◌+◌, sym, subst, Bounds, IsPool, pool_allocated}
use Rattle.tlsf_pool.proofs.lemmas.pools.PoolKept.{given_pool}
use Rattle.tlsf_pool.proofs.pools.one.OneLedger.give.Goals as goal

pub overflow_add-self : goal.overflow_add-self
overflow_add-self g c =
    let few : c.self.inside.held < c.self.inside.most = subst (λ (p : Bounds). p.held < p.most) (sym c.self.view_is) c.requires.admits.1 in
    search (rules, few)

pub returns-clause-holds : goal.returns-clause-holds
returns-clause-holds g c = λ sli h name is answer.
    let given = given_pool sli h c.args.self.now is c.args._len name c.requires.admits.0 c.requires.admits.1 answer in
    subst (λ (p : Bounds). IsPool sli (pool_allocated sli h c.args.self.now c.args._len).heap (record p { held = p.held + 1 })) (sym c.self.view_is) given
