use Rattle.tlsf_pool.proofs.lemmas.laws.Hundred.{thousands_and_one}
use Rattle.tlsf_pool.proofs.lemmas.laws.OneLargeCalls.{one_large_suffices}
use Rattle.tlsf_pool.proofs.laws.one_large.one_large_suffices.Goals as goal

pub returns : goal.returns
returns c = record { room = one_large_suffices; example = thousands_and_one }
