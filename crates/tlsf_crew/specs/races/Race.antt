-- The answers to the workers of a race: each record by itself, and how the records fit together.
use Rattle.std.specs.Prelude.{◌≡◌, ◌≢◌, ℕ, ◌+◌, ◌<◌, ◌≤◌, List, [], ◌∷◌, ◌++◌, length, map, drop, Option, All}
use Rattle.tlsf_crew.specs.Common.{IsPrefix, Post, Name, HeapState, Entry, Event, Call, Take, Drain, Empty, Drained, Refused, Full}
pub use Rattle.tlsf_calls.specs.Entries.{record_of}
use Rattle.tlsf_crew.specs.model.World.{World, heap_in}
use Rattle.tlsf_crew.specs.histories.History.{posts_made, posts_taken, StandsBehind}
use Rattle.tlsf_crew.specs.model.Progress.{Progress, untold, MayTell, MayTellAll}
use Rattle.tlsf_crew.specs.scripts.Scripts.{last_call, script_of}

-- ---- one record

-- the worker made the calls of its script and then the last one, and was told so; `scripted` are the entries of its script
pub record IsLegal (sli : ℕ) (n at : ℕ) (start : HeapState) (calls : List Call) (scripted : List Entry) (end : Progress) : Type 0 where
  pub between : Progress
  pub entries : between.entries ≡ scripted
  pub script : MayTellAll sli n at (untold start) calls between
  pub last : MayTell sli n at between last_call end

-- ---- two records

-- the record of worker i and that of worker j fit together, where these posts waited in the lane from i to j
pub record Agree (capacity i j : ℕ) (waited : List Post) (made : List (Option Name)) (sender scripted taker : List Entry) : Type 0 where
  -- what waited, and then what i was answered to have posted, is what j took, in order and each once
  pub posts : waited ++ posts_made i j made sender ≡ posts_taken i j taker
  pub signed : All (λ post. post.from ≡ i) (posts_taken i j taker)
  -- after the script no more is left than the lane holds
  pub last : length (posts_taken i j (drop (length scripted) taker)) ≤ capacity
  -- the lane was full only where its capacity of posts had waited or were made before
  pub full : (before : List Entry) (e : Entry) (name : Name) → StandsBehind sender before e → e.reply ≡ Refused (Full name) → name.heap ≡ j
      → capacity ≤ length waited + length (posts_made i j made before)
  -- it was empty, and a drain ended early, only where all that had waited was taken before
  pub empty : (before : List Entry) (e : Entry) → StandsBehind taker before e → e.call ≡ Take i → e.reply ≡ Empty → IsPrefix waited (posts_taken i j before)
  pub drained : (before : List Entry) (e : Entry) (most k : ℕ) → StandsBehind taker before e → e.call ≡ Drain most → e.reply ≡ Drained k → k < most
      → IsPrefix waited (posts_taken i j before)

-- ---- all records

-- the calls of a worker's script and then the last drain, as events of that worker
abbrev pub events_by : ℕ → List Call → List Event
events_by at calls = map (λ call. record { worker = at; call = call }) calls

abbrev pub events_of_race : List (List Call) → ℕ → List Event
events_of_race scripts j = events_by j (script_of scripts j ++ last_call ∷ [])

-- from a world the workers ran these scripts at once, were told these records, and left the other world
pub record IsRace {sli : ℕ} (w : World sli) (scripts : List (List Call)) (told : List (List Entry)) (v : World sli) : Type 0 where
  -- the names that the calls of each worker made, and the entries of its script
  pub made : ℕ → List (Option Name)
  pub scripted : ℕ → List Entry
  pub heaps : length v.heaps ≡ length w.heaps
  pub records : length told ≡ length w.heaps
  pub capacity : v.capacity ≡ w.capacity
  pub legal : (j : ℕ) → j < length w.heaps → IsLegal sli (length w.heaps) j (heap_in w j) (script_of scripts j) (scripted j)
      (record { made = made j; entries = record_of told j; heap = heap_in v j })
  pub agree : (i j : ℕ) → i < length w.heaps → j < length w.heaps → i ≢ j
      → Agree w.capacity i j (w.waiting i j) (made i) (record_of told i) (scripted j) (record_of told j)
  pub taken : (i j : ℕ) → v.waiting i j ≡ []
