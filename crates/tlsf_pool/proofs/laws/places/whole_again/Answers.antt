use Rattle.tlsf_pool.proofs.lemmas.laws.Occupied.{whole, no_leak}
use Rattle.tlsf_pool.proofs.laws.places.whole_again.Goals as goal

pub returns : goal.returns
returns c = record { whole = whole; history = no_leak }
