use Rattle.tlsf_pool.proofs.lemmas.laws.Snug.{snug, sum_suffices}
use Rattle.tlsf_pool.proofs.laws.room.blocks_are_snug.Goals as goal

pub returns : goal.returns
returns c = record { snug = snug; room = sum_suffices }
