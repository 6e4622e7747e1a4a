use Rattle.tlsf_crew.proofs.lemmas.race_laws.QueueAlone.{queue_race_is_one, two_uncontended}
use Rattle.tlsf_yard_laws.proofs.without_takes.queue_race_without_takes.Goals as goal

pub returns : goal.returns
returns c = record { one = queue_race_is_one; two = λ sli. two_uncontended {sli = sli} }
