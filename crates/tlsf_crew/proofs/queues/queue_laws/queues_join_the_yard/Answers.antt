use Rattle.tlsf_crew.proofs.lemmas.queues.QueueYards.{own_queue_heap, queue_number, queue_yard_kept, queues_joined}
use Rattle.tlsf_crew.proofs.queues.queue_laws.queues_join_the_yard.Goals as goal

pub returns : goal.returns
returns c = record { ids = λ sli. queue_number; heaps = λ sli. own_queue_heap; to = λ sli. queues_joined; kept = λ sli. queue_yard_kept }
