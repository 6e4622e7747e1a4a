-- The answers and effects of the calls of a worker over queues.
use Rattle.std.specs.Prelude.{◌≡◌, ℕ, ◌<◌, ◌⊎◌, List, length, Option, None}
use Rattle.tlsf_crew.specs.Common.{Took, Worker, Queues}
use Rattle.tlsf_calls.specs.declared.drained.Drained.{Drained}
use Rattle.tlsf_crew.specs.worker.Calls.{TakenFrom, TakesInTurn}
use Rattle.tlsf_crew.specs.worker.Drains.{heap_after, IsCountOf}
use Rattle.tlsf_crew.specs.worker.Workers.{heap_of}
use Rattle.tlsf_crew.specs.queues.QueueWorkers.{AsksQueue}

-- the own queue was asked for its next post
abbrev pub TakenFromQueue : {sli : ℕ} → Worker sli Queues → Worker sli Queues → Option Took → Type 0
TakenFromQueue a v answer = TakenFrom AsksQueue a v 0 answer

-- a drain of the own queue: it ends where `most` posts were taken, or with a take that shows no post
pub record DrainedQueue {sli : ℕ} (a v : Worker sli Queues) (most : ℕ) (answer : Drained) : Type 0 where
  pub tooks : List Took
  pub last : Worker sli Queues
  pub takes : TakesInTurn AsksQueue a last 0 tooks
  pub end : ((length tooks ≡ most) × (v ≡ last)) ⊎ ((length tooks < most) × TakenFromQueue last v None)
  pub heap : heap_of v ≡ heap_after (heap_of a) tooks
  pub count : IsCountOf answer tooks
