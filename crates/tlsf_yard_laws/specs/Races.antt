-- The laws that the worker of a heap may rely on in a race. They hold whatever the schedule of the threads, and after earlier races
-- and replays.
use Rattle.std.specs.Prelude.{◌≡◌, ℕ, ◌+◌, ◌<◌, ◌≤◌, List, [], ◌++◌, Option, None, length}
use Rattle.tlsf_yard_laws.specs.Common.{AllByRecursion, most_words, want, IsRegion, Name, live_count, held_after_all, mixed_words, AreModest, HasRoomFor, IsServed, contents, after_all, World, heap_in, replies, RunsTo, calls_on, answers_on, record_of, Event, Entry, Call}
use Rattle.tlsf_heap.specs.Calls as heap
use Rattle.tlsf_yard_laws.specs.Carriers.{Carrier, IsRaceOver}
use Rattle.tlsf_yard_laws.specs.Yards.{IsNew}

-- heap j of a world was new once, and has had these calls since, which got these answers
pub record HasPast {sli : ℕ} (w : World sli) (j words first : ℕ) (calls : List heap.Call) (answers : List heap.Answer) : Type 0 where
  pub within : j < length w.heaps
  pub since : RunsTo sli (heap.opened j words first) calls answers (heap_in w j)

-- a new heap has had no calls
abbrev pub NewHasNoPast : ℕ → Type 0
NewHasNoPast sli = (w : World sli) (j words first : ℕ) → IsNew w j words first → HasPast w j words first [] []

-- a list of events adds the calls that its entries tell
abbrev pub ReplayAddsToPast : ℕ → Type 0
ReplayAddsToPast sli = (w : World sli) (es : List Event) (j words first : ℕ) (calls : List heap.Call) (answers : List heap.Answer) → HasPast w j words first calls answers
    → let r = replies w es in HasPast r.world j words first (calls ++ calls_on j r.made r.entries) (answers ++ answers_on j r.entries)

-- a race adds those that the record of the heap's own worker tells
abbrev pub RaceAddsToPast : ℕ → Carrier → Type 0
RaceAddsToPast sli carrier = (w v : World sli) (scripts : List (List Call)) (made : ℕ → List (Option Name)) (records : List (List Entry)) → IsRaceOver carrier w scripts made records v → (j words first : ℕ) (calls : List heap.Call) (answers : List heap.Answer)
    → HasPast w j words first calls answers
    → HasPast v j words first (calls ++ calls_on j (made j) (record_of records j)) (answers ++ answers_on j (record_of records j))

-- a heap of mixed_words whose calls so far and in the race stay within the bounds is never answered NoFit. Its calls are those that
-- its own worker's record tells; a block whose name is under way counts as held until its worker takes it
abbrev pub RaceMixedSizesSuffice : ℕ → Carrier → Type 0
RaceMixedSizesSuffice sli carrier = (w v : World sli) (scripts : List (List Call)) (made : ℕ → List (Option Name)) (records : List (List Entry)) → IsRaceOver carrier w scripts made records v
    → (j words first most len : ℕ) (calls : List heap.Call) (answers : List heap.Answer) → HasPast w j words first calls answers
    → IsRegion sli words → want len ≤ most_words sli → mixed_words sli most len ≤ words
    → let now = calls ++ calls_on j (made j) (record_of records j) in let told = answers ++ answers_on j (record_of records j) in
    AreModest most len 0 now told → AllByRecursion HasRoomFor told

-- and each of its worker's requests is served, while the ticks last
abbrev pub RaceMixedSizesServe : ℕ → Carrier → Type 0
RaceMixedSizesServe sli carrier = (w v : World sli) (scripts : List (List Call)) (made : ℕ → List (Option Name)) (records : List (List Entry)) → IsRaceOver carrier w scripts made records v
    → (j words first most len : ℕ) (calls : List heap.Call) (answers : List heap.Answer) → HasPast w j words first calls answers
    → IsRegion sli words → want len ≤ most_words sli → mixed_words sli most len ≤ words
    → let now = calls ++ calls_on j (made j) (record_of records j) in let told = answers ++ answers_on j (record_of records j) in
    AreModest most len 0 now told → first + length now < heap.last_tick → AllByRecursion IsServed told

-- as many blocks of a heap are live after the race as its worker was told to be held
abbrev pub RaceHoldsWhatIsLive : ℕ → Carrier → Type 0
RaceHoldsWhatIsLive sli carrier = (w v : World sli) (scripts : List (List Call)) (made : ℕ → List (Option Name)) (records : List (List Entry)) → IsRaceOver carrier w scripts made records v
    → (j words first : ℕ) (calls : List heap.Call) (answers : List heap.Answer) → HasPast w j words first calls answers → 4 ≤ words
    → live_count (heap_in v j) ≡ held_after_all 0 (calls ++ calls_on j (made j) (record_of records j)) (answers ++ answers_on j (record_of records j))

-- the bytes of a heap are told by its own worker's record alone: what the other threads do changes none
abbrev pub RaceKeepsBytes : ℕ → Carrier → Type 0
RaceKeepsBytes sli carrier = (w v : World sli) (scripts : List (List Call)) (made : ℕ → List (Option Name)) (records : List (List Entry)) → IsRaceOver carrier w scripts made records v
    → (j words first : ℕ) (calls : List heap.Call) (answers : List heap.Answer) (name : Name) → HasPast w j words first calls answers → 4 ≤ words
    → contents (heap_in v j) name ≡ after_all (λ other. None) (calls ++ calls_on j (made j) (record_of records j)) (answers ++ answers_on j (record_of records j)) name
