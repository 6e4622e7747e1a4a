-- A yard of workers, its lanes, and when it is whole.
use Rattle.std.specs.Prelude.{ℕ, List, map, ◌≡◌, ◌≢◌, ◌+◌, ◌<◌, ◌≤◌, [], ◌++◌, length, drop, get_or, Option, Some, None, slice_get, All}
use Rattle.tlsf_crew.specs.Common.{IsLevel, Post, PostEnd, TakeEnd, posts_sent, free_slots, capacity_of, waited, taken, ready, IsLane, HeapState, Shown, Worker, Lanes}
use Rattle.tlsf_crew.specs.worker.Workers.{heap_of, shown_of, IsHeapOf}
use Rattle.tlsf_crew.specs.model.World.{World, no_heap}
use Rattle.tlsf_crew.specs.lanes.LaneWorkers.{id_and_capacity, end_to, end_from}

abbrev pub end_to_in : {sli : ℕ} → Option (Worker sli Lanes) → ℕ → Option PostEnd
end_to_in None j = None
end_to_in (Some a) j = end_to a j

abbrev pub end_from_in : {sli : ℕ} → Option (Worker sli Lanes) → ℕ → Option TakeEnd
end_from_in None i = None
end_from_in (Some a) i = end_from a i

-- the end of worker i that posts to worker j, and the end of worker j that takes from worker i
abbrev pub post_at : {sli : ℕ} → List (Worker sli Lanes) → ℕ → ℕ → Option PostEnd
post_at ws i j = end_to_in (slice_get ws i) j

abbrev pub take_at : {sli : ℕ} → List (Worker sli Lanes) → ℕ → ℕ → Option TakeEnd
take_at ws i j = end_from_in (slice_get ws j) i

-- the heap of worker i
abbrev pub heap_of_worker : {sli : ℕ} → List (Worker sli Lanes) → ℕ → HeapState
heap_of_worker ws i = get_or (map heap_of ws) i no_heap

-- all that the heap of worker i shows, with its touches; None where there is no such worker
abbrev pub shown_in : {sli : ℕ} → List (Worker sli Lanes) → ℕ → Option Shown
shown_in ws i = slice_get (map shown_of ws) i

-- the number of worker i
abbrev pub id_in : {sli : ℕ} → List (Worker sli Lanes) → ℕ → ℕ
id_in ws i = (get_or (map id_and_capacity ws) i (0, 0)).0

-- the capacity of every lane, as the first worker knows it
abbrev pub capacity_in : {sli : ℕ} → List (Worker sli Lanes) → ℕ
capacity_in ws = (get_or (map id_and_capacity ws) 0 (0, 0)).1

-- what waits between two ends: what had waited less what was taken, then what was sent
abbrev pub lane_waits : Option PostEnd → Option TakeEnd → List Post
lane_waits None t = []
lane_waits (Some p) None = []
lane_waits (Some p) (Some t) = drop (length (taken t)) (waited t ++ posts_sent p)

-- what a yard shows
unfoldable pub world_of : {sli : ℕ} → List (Worker sli Lanes) → World sli
world_of ws = record { heaps = map heap_of ws; waiting = λ i j. lane_waits (post_at ws i j) (take_at ws i j); capacity = capacity_in ws }

-- one `beside`
pub record BothBeside (p : PostEnd) (t : TakeEnd) (q : PostEnd) (u : TakeEnd) : Type 0 where
  pub lane : IsLane q u
  pub order : taken t ++ waited u ≡ waited t ++ posts_sent p
  pub fresh : (posts_sent q ≡ []) × (taken u ≡ []) × (ready u ≡ waited u)
  pub capacity : capacity_of q ≡ capacity_of p
  pub room : free_slots q + length (waited u) ≡ capacity_of q

-- both ends of the lane from i to j are there, and it has this capacity
abbrev pub HasPair : {sli : ℕ} → List (Worker sli Lanes) → ℕ → ℕ → ℕ → Type 0
HasPair ws i j capacity = (p : PostEnd) × (t : TakeEnd) × (post_at ws i j ≡ Some p) × (take_at ws i j ≡ Some t) × IsLane p t × (capacity_of p ≡ capacity)

abbrev pub HasYardLane : {sli : ℕ} → List (Worker sli Lanes) → ℕ → ℕ → Type 0
HasYardLane ws i j = HasPair ws i j (capacity_in ws)

-- a whole yard of a level that there is. It has at most eight workers, numbered from 0 in their order, each with a lawful heap of
-- its number. From each to each other goes a lane that has both ends, of the yard's capacity, at most 1,024 posts. None has an end
-- to or from itself, or to or from a worker that isn't there. Each post that waits was posted by the worker at its lane's other end
pub record IsYard {sli : ℕ} (ws : List (Worker sli Lanes)) : Type 0 where
  pub level : IsLevel sli
  pub few : length ws ≤ 8
  pub ids : (i : ℕ) → i < length ws → id_in ws i ≡ i
  pub heaps : (i : ℕ) → i < length ws → IsHeapOf i (heap_of_worker ws i)
  pub alone : (i : ℕ) → (post_at ws i i ≡ None) × (take_at ws i i ≡ None)
  pub outside : (i j : ℕ) → length ws ≤ j → (post_at ws i j ≡ None) × (take_at ws j i ≡ None)
  pub lanes : (i j : ℕ) → i < length ws → j < length ws → i ≢ j → HasYardLane ws i j
  pub small : capacity_in ws ≤ 1024
  pub signed : (i j : ℕ) → All (λ post. post.from ≡ i) (lane_waits (post_at ws i j) (take_at ws i j))

-- what waits in the lane from i to j
abbrev pub waits_in : {sli : ℕ} → List (Worker sli Lanes) → ℕ → ℕ → List Post
waits_in ws i j = lane_waits (post_at ws i j) (take_at ws i j)
