use Rattle.tlsf_pool.proofs.lemmas.sizes.Cuts.{one_way}
use Rattle.tlsf_pool.proofs.sizes.split.kinds_are_split_one_way.Goals as goal

pub returns : goal.returns
returns c = one_way
