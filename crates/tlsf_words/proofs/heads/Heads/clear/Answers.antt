use Rattle.tlsf_words.proofs.NoHeads.{nowhere_each}
use Rattle.tlsf_words.proofs.heads.Heads.clear.Goals as goal

pub returns-clause-places : goal.returns-clause-places
returns-clause-places g c = λ class. nowhere_each 641 class
