use Rattle.tlsf_held.proofs.Enough.{words_suffice}
use Rattle.tlsf_held.proofs.laws.held_words_suffice.Goals as goal

pub returns : goal.returns
returns c = words_suffice
