-- The laws that the worker of a heap may rely on, whatever the other workers do.
use Rattle.std.specs.Prelude.{◌≡◌, ℕ, ◌+◌, ◌<◌, ◌≤◌, List, None, length}
use Rattle.tlsf_yard_laws.specs.Common.{AllByRecursion, most_words, want, IsRegion, Name, live_count, held_after_all, mixed_words, AreModest, HasRoomFor, IsServed, contents, after_all, World, heap_in, replies, calls_on, answers_on, Event}
use Rattle.tlsf_heap.specs.Calls.{last_tick, opened}

-- heap j of a world is new
pub record IsNew {sli : ℕ} (w : World sli) (j words first : ℕ) : Type 0 where
  pub within : j < length w.heaps
  pub new : heap_in w j ≡ opened j words first

-- a heap of mixed_words whose calls stay within the bounds is never answered NoFit. Its calls are those that its own worker's
-- entries tell. A block whose name waits in a lane counts as held until a drain releases it
abbrev pub YardMixedSizesSuffice : ℕ → Type 0
YardMixedSizesSuffice sli = (w : World sli) (es : List Event) (j words first most len : ℕ) → IsNew w j words first → IsRegion sli words → want len ≤ most_words sli → mixed_words sli most len ≤ words
    → let r = replies w es in AreModest most len 0 (calls_on j r.made r.entries) (answers_on j r.entries) → AllByRecursion HasRoomFor (answers_on j r.entries)

-- and each of its worker's requests is served, while the ticks last
abbrev pub YardMixedSizesServe : ℕ → Type 0
YardMixedSizesServe sli = (w : World sli) (es : List Event) (j words first most len : ℕ) → IsNew w j words first → IsRegion sli words → want len ≤ most_words sli → mixed_words sli most len ≤ words
    → let r = replies w es in AreModest most len 0 (calls_on j r.made r.entries) (answers_on j r.entries) → first + length (calls_on j r.made r.entries) < last_tick
    → AllByRecursion IsServed (answers_on j r.entries)

-- as many blocks of a heap are live as its worker's entries tell to be held
abbrev pub YardHoldsWhatIsLive : ℕ → Type 0
YardHoldsWhatIsLive sli = (w : World sli) (es : List Event) (j words first : ℕ) → IsNew w j words first → 4 ≤ words
    → let r = replies w es in live_count (heap_in r.world j) ≡ held_after_all 0 (calls_on j r.made r.entries) (answers_on j r.entries)

-- the bytes of a heap are told by its worker's entries alone: what the other workers do changes none
abbrev pub YardKeepsBytes : ℕ → Type 0
YardKeepsBytes sli = (w : World sli) (es : List Event) (j words first : ℕ) (name : Name) → IsNew w j words first → 4 ≤ words
    → let r = replies w es in contents (heap_in r.world j) name ≡ after_all (λ other. None) (calls_on j r.made r.entries) (answers_on j r.entries) name
