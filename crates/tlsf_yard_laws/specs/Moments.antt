-- How large the heap of a worker must be in a race. It goes by the blocks that the programs hold at its requests and by how much
-- its lanes, or its queue, hold.
use Rattle.std.specs.Prelude.{◌≡◌, ◌≢◌, ℕ, zero, suc, ◌+◌, ◌<◌, ◌≤◌, ◌==◌, List, [], ◌++◌, Option, Some, fold, length, if◌then◌else◌}
use Rattle.tlsf_yard_laws.specs.Common.{AllByRecursion, most_words, want, IsRegion, Name, Post, mixed_words, AreModest, IsServed, Inventory, inventory_after_all, World, StandsBehind, answers_on, calls_on, entries_of, posts_made, posts_taken, record_of, Entry, Call, Target, Allocate, Resize}
use mathlib.Core.List.{IsPrefix}
use Rattle.tlsf_heap.specs.Calls as heap
use Rattle.tlsf_yard_laws.specs.Carriers.{Carrier, IsRaceOver, OverLanes, OverQueues}
use Rattle.tlsf_yard_laws.specs.Races.{HasPast}
use Rattle.tlsf_yard_laws.specs.Sharing.{most_under_way, without_post}

-- all posts under way to worker j from the workers below a number
abbrev pub all_under_way : ℕ → (ℕ → List Post) → ℕ → List Post
all_under_way j under_way zero = []
all_under_way j under_way (suc i) = all_under_way j under_way i ++ (if i == j then [] else under_way i)

-- no more posts are under way to worker j than its lanes hold, each its capacity, or its queue with the posts of all others
abbrev pub IsShort : {sli : ℕ} → Carrier → World sli → ℕ → (ℕ → List Post) → Type 0
IsShort OverLanes w j under_way = (i : ℕ) → i < length w.heaps → i ≢ j → length (under_way i) ≤ w.capacity
IsShort OverQueues w j under_way = length (all_under_way j under_way (length w.heaps)) ≤ w.capacity

-- how far the others had come when worker j had been told the entries `before`. It is any part of their records that fits, and no
-- more is under way than its lanes or its queue hold
pub record Moment {sli : ℕ} (carrier : Carrier) (w : World sli) (made : ℕ → List (Option Name)) (records : List (List Entry)) (j : ℕ) (before : List Entry) : Type 0 where
  pub told : ℕ → List Entry
  -- the posts that are under way to j, from each worker
  pub under_way : ℕ → List Post
  pub part : (i : ℕ) → i < length w.heaps → i ≢ j → IsPrefix (told i) (record_of records i)
  -- what waited, and then what i was answered to have posted, is what j took, and then what is under way
  pub posts : (i : ℕ) → i < length w.heaps → i ≢ j → w.waiting i j ++ posts_made i j (made i) (told i) ≡ posts_taken i j before ++ under_way i
  pub short : IsShort carrier w j under_way

-- one order of the entries of all records. In it each post is taken after it was made and no lane or queue ever holds more than its
-- capacity
pub record IsOrder {sli : ℕ} (carrier : Carrier) (w : World sli) (made : ℕ → List (Option Name)) (records : List (List Entry)) (order : List Entry) : Type 0 where
  pub each : (i : ℕ) → i < length w.heaps → entries_of i order ≡ record_of records i
  -- the posts of worker i that wait for worker j after some of them
  pub waits : List Entry → ℕ → ℕ → List Post
  pub posts : (before : List Entry) (i j : ℕ) → IsPrefix before order → i < length w.heaps → j < length w.heaps → i ≢ j
      → w.waiting i j ++ posts_made i j (made i) before ≡ posts_taken i j before ++ waits before i j
  pub short : (before : List Entry) (j : ℕ) → IsPrefix before order → j < length w.heaps → IsShort carrier w j (λ i. waits before i j)

-- how far each worker has come anywhere in such an order is a moment, with what waits there under way
abbrev pub OrdersHaveMoments : ℕ → Carrier → Type 0
OrdersHaveMoments sli carrier = (w : World sli) (made : ℕ → List (Option Name)) (records : List (List Entry)) (order : List Entry) (is : IsOrder carrier w made records order)
    → (before : List Entry) → IsPrefix before order → (j : ℕ) → j < length w.heaps
    → (m : Moment carrier w made records j (entries_of j before)) × ((i : ℕ) → m.told i ≡ entries_of i before) × ((i : ℕ) → m.under_way i ≡ is.waits before i j)

-- what the programs hold, of the live blocks of a heap: those whose names aren't under way to it
abbrev pub unreleased : Inventory → List Post → Inventory
unreleased live posts = fold (λ inventory post. without_post inventory (Some post)) live posts

-- let worker j have been told the entries `before` and let these blocks of its heap be live. Then the programs hold fewer than
-- `most` of them at some moment that the records admit
pub record IsSparingNow {sli : ℕ} (carrier : Carrier) (w : World sli) (made : ℕ → List (Option Name)) (records : List (List Entry)) (j most : ℕ) (before : List Entry) (live : Inventory) : Type 0 where
  pub moment : Moment carrier w made records j before
  pub few : length (unreleased live (all_under_way j moment.under_way (length w.heaps))) < most

-- this holds at each request in its record, after earlier calls on its heap. It asks for blocks of at most `len` bytes and resizes
-- them to no more
abbrev pub AreSparingInRace : {sli : ℕ} (carrier : Carrier) (w : World sli) → (ℕ → List (Option Name)) → List (List Entry) → (j most len : ℕ) → List heap.Call → List heap.Answer → Type 0
AreSparingInRace carrier w made records j most len calls answers = (before : List Entry) (e : Entry) → StandsBehind (record_of records j) before e
    → ((n : ℕ) → e.call ≡ Allocate n
    → (n ≤ len) × IsSparingNow carrier w made records j most before (inventory_after_all [] (calls ++ calls_on j (made j) before) (answers ++ answers_on j before)))
    × ((target : Target) (n : ℕ) → e.call ≡ Resize target n → n ≤ len)

-- a heap with room for the blocks that the programs hold and for those under way serves each request of its worker. It does so
-- while the ticks last
abbrev pub RaceSharedMixedSizesServe : ℕ → Carrier → Type 0
RaceSharedMixedSizesServe sli carrier = (w v : World sli) (scripts : List (List Call)) (made : ℕ → List (Option Name)) (records : List (List Entry)) → IsRaceOver carrier w scripts made records v
    → (j words first most len : ℕ) (calls : List heap.Call) (answers : List heap.Answer) → HasPast w j words first calls answers
    → IsRegion sli words → want len ≤ most_words sli → mixed_words sli (most + most_under_way carrier w) len ≤ words → AreModest (most + most_under_way carrier w) len 0 calls answers
    → let now = calls ++ calls_on j (made j) (record_of records j) in let told = answers ++ answers_on j (record_of records j) in
    AreSparingInRace carrier w made records j most len calls answers → first + length now < heap.last_tick → AllByRecursion IsServed told
