use Rattle.tlsf_crew.proofs.lemmas.lanes.LanesOfOne.{own_number, heap_of_its_number, joined_to, joined_from}
use Rattle.tlsf_crew.proofs.lanes.laws.lanes_join_the_yard.Goals as goal

pub returns : goal.returns
returns c = record { ids = λ sli. own_number; heaps = λ sli. heap_of_its_number; to = λ sli. joined_to; from = λ sli. joined_from }
