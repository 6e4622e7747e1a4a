use Rattle.tlsf_pool.proofs.lemmas.laws.ModestCalls.{region_is, suffices, serves}
use Rattle.tlsf_pool.proofs.lemmas.laws.Held.{holds}
use Rattle.tlsf_pool.proofs.lemmas.laws.Comb.{one_block_tight}
use Rattle.tlsf_pool.proofs.lemmas.laws.Hundred.{hundred}
use Rattle.tlsf_pool.proofs.laws.mixed_sizes.mixed_sizes_suffice.Goals as goal

pub returns : goal.returns
returns c = record { room = suffices; served = serves; region = region_is; tight = one_block_tight; held = holds; example = hundred }
