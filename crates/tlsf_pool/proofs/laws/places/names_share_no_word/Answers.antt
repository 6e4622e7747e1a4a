use Rattle.tlsf_pool.proofs.lemmas.laws.Occupied.{apart, inside}
use Rattle.tlsf_pool.proofs.laws.places.names_share_no_word.Goals as goal

pub returns : goal.returns
returns c = record { apart = apart; inside = inside }
