use Rattle.tlsf_crew.proofs.lemmas.race_laws.RecordHistory.{race_tells, race_runs, race_posts, race_lawful, race_always}
use Rattle.tlsf_yard_laws.proofs.race_histories.one_history_of_a_race.Goals as goal

pub returns : goal.returns
returns c = record { told = λ sli. race_tells; heaps = λ sli. race_runs; posts = λ sli. race_posts; lawful = λ sli. race_lawful; always_lawful = λ sli w v scripts records race before later j lawful j_in. race_always w v scripts records race before later j lawful.0 (lawful.1 j j_in) j_in }
