use Rattle.tlsf_pool.proofs.Common.{sym, subst, IsPool}
use Rattle.tlsf_pool.proofs.lemmas.pools.PoolKept.{taken_pool}
use Rattle.tlsf_pool.proofs.pools.one.OneLedger.take_back.Goals as goal

pub returns-clause-holds : goal.returns-clause-holds
returns-clause-holds g c = λ sli h name is seen answer. taken_pool sli h _ (subst (IsPool sli h) (sym c.self.view_is) is) name answer
