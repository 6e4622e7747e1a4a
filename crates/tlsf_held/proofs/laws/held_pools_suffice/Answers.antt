use Rattle.tlsf_held.proofs.PoolsEnough.{pools_enough}
use Rattle.tlsf_held.proofs.laws.held_pools_suffice.Goals as goal

pub returns : goal.returns
returns c = pools_enough
