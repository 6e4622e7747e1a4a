-- The notes of a drain of a queue on the posts that it takes. This serves the contracts and proofs of private functions alone.
use Rattle.std.specs.Prelude.{ℕ, ⊤, Option, Some, None}
use Rattle.tlsf_crew.specs.Common.{Took, Queues}
use Rattle.tlsf_crew.specs.queues.QueueWorkers.{AsksQueue, TookOut}
use Rattle.tlsf_crew.specs.worker.Notes.{TakeRules}

-- where the notes admit no more, all that may come was taken, and a drain waits for the queue to be seen empty
abbrev pub StopsAtQueue : Queues → Queues → ℕ → Type 0
StopsAtQueue p q source = TookOut p q None

-- the entry of a take names who posted
abbrev pub queue_rules : {N : Type 0} → (N → ℕ → Type 0) → (N → ℕ → ℕ → Option ℕ → Took → N → Type 0) → TakeRules Queues N
queue_rules admitted noted = record { hears = λ queues source. ⊤; takes = AsksQueue; stops = StopsAtQueue; sent_by = λ from. Some from; admitted = admitted; noted = noted }
