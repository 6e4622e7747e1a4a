use Rattle.tlsf_crew.proofs.lemmas.race_laws.QueueRecords.{queue_race_tells, queue_race_runs, queue_race_posts, queue_race_lawful, queue_race_always}
use Rattle.tlsf_yard_laws.proofs.queue_race_histories.one_history_of_a_queue_race.Goals as goal

pub returns : goal.returns
returns c = record { told = λ sli. queue_race_tells; heaps = λ sli. queue_race_runs; posts = λ sli. queue_race_posts; lawful = λ sli. queue_race_lawful; always_lawful = λ sli. queue_race_always }
