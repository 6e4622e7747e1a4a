use Rattle.tlsf_pool.proofs.lemmas.pools.PoolKept.{granted, written_pool}
use Rattle.tlsf_pool.proofs.lemmas.pools.PoolTells.{bounds_tell}
use Rattle.tlsf_pool.proofs.pools.one.OneLedger.laws.Goals as goal

pub returns-clause-tells : goal.returns-clause-tells
returns-clause-tells g c = λ sli h p len is. bounds_tell sli h p len is

pub returns-clause-reports : goal.returns-clause-reports
returns-clause-reports g c = λ sli h p is grant. record { held = is.live; grant = λ few. granted sli h p is _ grant few }

pub returns-clause-written : goal.returns-clause-written
returns-clause-written g c = λ sli h p name at bytes is. written_pool sli h p is name at bytes
