-- Facts that the parts of a race over queues give one another. This serves the contracts and proofs of private functions alone.
use Rattle.std.specs.Prelude.{All, ◌≡◌, ℕ, ◌<◌, ◌≤◌, List, [], ◌∷◌, ◌++◌, length, Option, Some, None, slice_get, vec_len, vec_capacity}
use Rattle.tlsf_crew.specs.Common.{Vec, Global, IsPrefix, posts_of, got_by, known_to, Name, Entry, Call, record_of, Worker, Queues}
use Rattle.tlsf_crew.specs.jobs.Job.{KnowsSome}
use Rattle.tlsf_crew.specs.scripts.Scripts.{ScriptRun, at_stage, last_call, script_of}
use Rattle.tlsf_crew.specs.worker.Workers.{heap_of, id_of}
use Rattle.tlsf_crew.specs.queues.QueueWorkers.{queue_end_to, KnowsQueueYard}
use Rattle.tlsf_crew.specs.model.QueueProgress.{MayTellQueue}
use Rattle.tlsf_crew.specs.scripts.QueueMoves.{QueueMoved, queue_promise, told_of}
use Rattle.tlsf_crew.specs.queues.QueueSettle.{EachQueueSettled}

-- ---- one worker

-- the worker is one of some yard
abbrev pub KnowsSomeYard : {sli : ℕ} → Worker sli Queues → Type 0
KnowsSomeYard a = KnowsSome KnowsQueueYard a

-- worker a of n has made the calls of a script, and has become v
pub record QueueWorkerRan {sli : ℕ} (n : ℕ) (a : Worker sli Queues) (script : List Call) (made : List (Option Name)) (entries : List Entry) (v : Worker sli Queues) : Type 0 where
  pub limits : List ℕ
  pub left : List ℕ
  pub run : ScriptRun (queue_promise sli) n a limits script made (at_stage v left entries)

-- there is room for one entry more
abbrev pub HasPlace : Vec Entry Global → Type 0
HasPlace entries = vec_len entries < vec_capacity entries

-- a record for each of this number of workers, which has room for one entry more
pub record HavePlaces (workers : ℕ) (records : List (Vec Entry Global)) : Type 0 where
  pub count : length records ≡ workers
  pub places : All HasPlace records

-- ---- all workers

-- the workers ws ran the scripts and became the workers vs
pub record EachQueueWorkerRan {sli : ℕ} (ws : List (Worker sli Queues)) (scripts : List (List Call)) (records : List (List Entry)) (vs : List (Worker sli Queues)) : Type 0 where
  pub made : ℕ → List (Option Name)
  pub worker_count : length vs ≡ length ws
  pub record_count : length records ≡ length ws
  pub ran : (j : ℕ) (a : Worker sli Queues) → slice_get ws j ≡ Some a
      → (v : Worker sli Queues) × (slice_get vs j ≡ Some v) × ((n : ℕ) → KnowsQueueYard n a → QueueWorkerRan n a (script_of scripts j) (made j) (record_of records j) v)

-- ---- the last drains

-- worker a has taken all that was known to have been put, and has become v
pub record QueueLastDrained {sli : ℕ} (n : ℕ) (a v : Worker sli Queues) (before after : List Entry) : Type 0 where
  pub own : List Entry
  pub entries_are : after ≡ before ++ own
  pub told : (made : List (Option Name)) → MayTellQueue sli n (id_of a) (told_of made before (heap_of a)) last_call (told_of (made ++ None ∷ []) after (heap_of v))
  pub limits : List ℕ
  pub left : List ℕ
  pub moved : (made : List (Option Name)) → QueueMoved (id_of a) made a limits (last_call ∷ []) own v left
  pub all : (i : ℕ) → IsPrefix (posts_of i (known_to a.ports.own)) (posts_of i (got_by v.ports.own))
  pub ends : queue_end_to v ≡ queue_end_to a

-- so has each worker below k; the others are as they were
pub record EachQueueLastDrained {sli : ℕ} (ws : List (Worker sli Queues)) (rs ss : List (List Entry)) (vs : List (Worker sli Queues)) (k : ℕ) : Type 0 where
  pub worker_count : length vs ≡ length ws
  pub record_count : length ss ≡ length rs
  pub drained : (j : ℕ) (a : Worker sli Queues) → j < k → slice_get ws j ≡ Some a
      → (v : Worker sli Queues) × (slice_get vs j ≡ Some v) × ((n : ℕ) → KnowsQueueYard n a → QueueLastDrained n a v (record_of rs j) (record_of ss j))
  pub later_workers : (j : ℕ) → k ≤ j → slice_get vs j ≡ slice_get ws j

-- the queues were settled, drained, and settled again
pub record SettledAndDrained {sli : ℕ} (ws : List (Worker sli Queues)) (rs ss : List (List Entry)) (xs : List (Worker sli Queues)) : Type 0 where
  pub settled : List (Worker sli Queues)
  pub emptied : List (Worker sli Queues)
  pub first : EachQueueSettled ws (length ws) settled
  pub drained : EachQueueLastDrained settled rs ss emptied (length settled)
  pub last : EachQueueSettled emptied (length emptied) xs
