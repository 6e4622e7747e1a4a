use Rattle.tlsf_crew.proofs.lemmas.histories.Fronts.{replies_always}
use Rattle.tlsf_crew.proofs.lemmas.histories.AllEntries.{replies_tell, replies_lawful}
use Rattle.tlsf_crew.proofs.histories.history.one_history.Goals as goal

pub returns : goal.returns
returns c = record {
  told = λ sli w es. (replies_tell w es).told;
  heaps = λ sli w es j j_in. (replies_tell w es).history.heaps j j_in;
  posts = λ sli w es i j. (replies_tell w es).history.posts i j;
  lawful = λ sli. replies_lawful;
  always_lawful = λ sli. replies_always;
}
