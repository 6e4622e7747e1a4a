-- The answers to the workers of a race over queues: each record by itself, and how the records fit together.
use Rattle.std.specs.Prelude.{◌≡◌, ◌≢◌, ℕ, ◌+◌, ◌<◌, ◌≤◌, List, [], ◌∷◌, ◌++◌, length, Option, All}
use Rattle.tlsf_crew.specs.Common.{IsPrefix, Post, Name, HeapState, Entry, Call, Drain, Full, Drained, Refused, record_of}
use Rattle.tlsf_crew.specs.model.World.{World, heap_in}
use Rattle.tlsf_crew.specs.histories.History.{posts_made, posts_taken, StandsBehind}
use Rattle.tlsf_crew.specs.model.Progress.{Progress, untold}
use Rattle.tlsf_crew.specs.scripts.Scripts.{last_call, script_of}
use Rattle.tlsf_crew.specs.model.QueueProgress.{MayTellQueueAll}

-- the worker made the calls of its script and then the last one, and was told so
abbrev pub IsLegalQueue : ℕ → ℕ → ℕ → HeapState → List Call → Progress → Type 0
IsLegalQueue sli n at start calls end = MayTellQueueAll sli n at (untold start) (calls ++ last_call ∷ []) end

-- the records of workers i and j of n fit together, where these posts of i waited for j
pub record AgreeQueue (n capacity i j : ℕ) (waited : List Post) (made : List (Option Name)) (sender taker : List Entry) : Type 0 where
  -- what waited, and then what i was answered to have posted, is what j took of i, in order and each once
  pub posts : waited ++ posts_made i j made sender ≡ posts_taken i j taker
  pub signed : All (λ post. post.from ≡ i) (posts_taken i j taker)
  -- where i alone posts to j, the queue was full only where its capacity of posts had waited or were made before
  pub full : n ≡ 2 → (before : List Entry) (e : Entry) (name : Name) → StandsBehind sender before e → e.reply ≡ Refused (Full name) → name.heap ≡ j
      → capacity ≤ length waited + length (posts_made i j made before)
  -- a drain ended early only where all that had waited was taken before
  pub drained : (before : List Entry) (e : Entry) (most k : ℕ) → StandsBehind taker before e → e.call ≡ Drain most → e.reply ≡ Drained k → k < most
      → IsPrefix waited (posts_taken i j before)

-- from a world the workers ran these scripts at once over queues, were told these records, and left the other world
pub record IsQueueRace {sli : ℕ} (w : World sli) (scripts : List (List Call)) (told : List (List Entry)) (v : World sli) : Type 0 where
  -- the names that the calls of each worker made
  pub made : ℕ → List (Option Name)
  pub heaps : length v.heaps ≡ length w.heaps
  pub records : length told ≡ length w.heaps
  pub capacity : v.capacity ≡ w.capacity
  pub legal : (j : ℕ) → j < length w.heaps → IsLegalQueue sli (length w.heaps) j (heap_in w j) (script_of scripts j)
      (record { made = made j; entries = record_of told j; heap = heap_in v j })
  pub agree : (i j : ℕ) → i < length w.heaps → j < length w.heaps → i ≢ j
      → AgreeQueue (length w.heaps) w.capacity i j (w.waiting i j) (made i) (record_of told i) (record_of told j)
  -- the last drain takes what is left after the scripts, no more than the queue holds
  pub last : (j : ℕ) → j < length w.heaps → (before : List Entry) (k : ℕ) → record_of told j ≡ before ++ record { worker = j; call = last_call; reply = Drained k } ∷ [] → k ≤ w.capacity
  pub taken : (i j : ℕ) → v.waiting i j ≡ []
