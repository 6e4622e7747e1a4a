-- The answers and effects of the calls of one worker over queues. This serves the contracts and proofs of private functions alone.
use Rattle.std.specs.Prelude.{◌≡◌, ℕ, ◌+◌, ◌<◌, ◌≤◌, List, ◌++◌, length, Option, Some, slice_index}
use Rattle.tlsf_crew.specs.Common.{IsPrefix, posts_of, put_by, gone_from, plan_of, got_by, known_to, IsOnlyPoster, PosterEnd, Name, Entry, Call, Drain, Reply, Full, Drained, Refused, Worker, Queues}
use Rattle.tlsf_crew.specs.model.Sums.{sum_of}
use Rattle.tlsf_crew.specs.histories.History.{posts_made, posts_taken, StandsBehind}
pub use Rattle.tlsf_crew.specs.scripts.Scripts.{told_of, entry_by}
use Rattle.tlsf_crew.specs.scripts.Scripts.{Stage, Step, ScriptPromise}
use Rattle.tlsf_crew.specs.queues.QueueWorkers.{queue_end_to, KeepsQueueYards, KnowsQueueYard}
use Rattle.tlsf_crew.specs.model.QueueProgress.{MayTellQueue}

-- how many posts may be taken: the capacity of a queue, and one for each release of any script
abbrev pub IsQueueLimit : List ℕ → List ℕ → Type 0
IsQueueLimit releases limits = (slice_index limits 0 ≡ 1024 + sum_of releases) × (sum_of limits ≡ slice_index limits 0)

-- worker a, of number `at`, has become v by these calls, as the entries tell. It might take this many posts, and may take the rest
-- of them
pub record QueueMoved {sli : ℕ} (at : ℕ) (made : List (Option Name)) (a : Worker sli Queues) (limits : List ℕ) (calls : List Call) (entries : List Entry) (v : Worker sli Queues) (left : List ℕ) : Type 0 where
  pub yard : KeepsQueueYards a v
  -- each end put the posts that the entries tell
  pub sent : (j : ℕ) (p q : PosterEnd) → queue_end_to a j ≡ Some p → queue_end_to v j ≡ Some q → put_by q ≡ put_by p ++ posts_made at j made entries
  -- and of each worker those were taken that they tell
  pub taken : (i : ℕ) → posts_of i (got_by v.ports.own) ≡ posts_of i (got_by a.ports.own) ++ posts_taken i at entries
  -- a drain ended early only where all was taken that was known to have been put
  pub drained : (before : List Entry) (e : Entry) (most k : ℕ) → StandsBehind entries before e → e.call ≡ Drain most → e.reply ≡ Drained k → k < most
      → (i : ℕ) → IsPrefix (posts_of i (known_to a.ports.own)) (posts_of i (got_by a.ports.own) ++ posts_taken i at before)
  -- a queue into which nobody else posts was full only where its capacity of posts had been put, besides those known to be taken
  pub full : (before : List Entry) (e : Entry) (name : Name) (p : PosterEnd) → StandsBehind entries before e → e.reply ≡ Refused (Full name) → queue_end_to a name.heap ≡ Some p → IsOnlyPoster p
      → length (gone_from p) + (plan_of p).capacity ≤ length (put_by p) + length (posts_made at name.heap made before)
  pub room : length entries + sum_of left ≤ length calls + sum_of limits

-- what the calls of a script tell over queues
abbrev pub queue_promise : (sli : ℕ) → ScriptPromise sli Queues
queue_promise sli = record { limited = λ queues releases limits. IsQueueLimit releases limits; knows = KnowsQueueYard; tells = MayTellQueue sli; moves = QueueMoved }

-- the call was answered so; the entries got longer by those of a drain's takes, and have not its own yet
abbrev pub QueueStepped : {sli : ℕ} → ℕ → Stage sli Queues → Call → List (Option Name) → Stage sli Queues → Reply → Type 0
QueueStepped {sli} n s call made t reply = Step (queue_promise sli) n s call made t reply
