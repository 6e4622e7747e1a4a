use Rattle.tlsf_crew.proofs.lemmas.queues.QueueKept.{queues_keep_heap}
use Rattle.tlsf_crew.proofs.queues.queues.QueuesPorts.heap_keeps.Goals as goal

pub returns : goal.returns
returns c = λ sli a v same kept. queues_keep_heap a v same kept
