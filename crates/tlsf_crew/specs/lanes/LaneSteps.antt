-- The change in a yard when a lane is settled, or a step is made on one end of it. This serves the contracts and proofs of private
-- functions alone.
use Rattle.std.specs.Prelude.{◌≡◌, ◌≢◌, ℕ, ◌<◌, ◌≤◌, List, length, map, Some, slice_get, slice_set}
use Rattle.tlsf_crew.specs.Common.{PostEnd, TakeEnd, capacity_of, IsLane, Worker, Lanes}
use Rattle.tlsf_crew.specs.worker.Workers.{heap_of, Stays}
use Rattle.tlsf_crew.specs.lanes.LaneWorkers.{id_and_capacity, lane_extents}
use Rattle.tlsf_crew.specs.lanes.Yard.{post_at, take_at, BothBeside}
use Rattle.tlsf_crew.specs.lanes.Settle.{LaneSettled}

-- two of this number of workers
pub record AreTwo (count i j : ℕ) : Type 0 where
  pub inside : (i < count) × (j < count)
  pub apart : i ≢ j

-- the lane from worker i, which is a, to worker j, which is b
abbrev pub HasLane : {sli : ℕ} → ℕ → ℕ → Worker sli Lanes → Worker sli Lanes → Type 0
HasLane i j a b =
    (p : PostEnd) × (t : TakeEnd)
    × (slice_get a.ports.posts.items j ≡ Some (Some p)) × (slice_get b.ports.takes.items i ≡ Some (Some t)) × IsLane p t

-- worker v is a with its end to j settled, and worker w is b with its end from i settled; nothing else changes
pub record PairSettled {sli : ℕ} (i j : ℕ) (a b v w : Worker sli Lanes) : Type 0 where
  pub post : PostEnd
  pub take : TakeEnd
  pub new_post : PostEnd
  pub new_take : TakeEnd
  pub post_is : slice_get a.ports.posts.items j ≡ Some (Some post)
  pub take_is : slice_get b.ports.takes.items i ≡ Some (Some take)
  pub beside : BothBeside post take new_post new_take
  pub posts : v.ports.posts.items ≡ slice_set a.ports.posts.items j (Some new_post)
  pub takes : w.ports.takes.items ≡ slice_set b.ports.takes.items i (Some new_take)
  pub same_poster : (v.heap ≡ a.heap) × (id_and_capacity v ≡ id_and_capacity a) × (v.ports.takes ≡ a.ports.takes)
  pub same_taker : (w.heap ≡ b.heap) × (id_and_capacity w ≡ id_and_capacity b) × (w.ports.posts ≡ b.ports.posts)
  pub poster_stays : Stays lane_extents a v
  pub taker_stays : Stays lane_extents b w

-- the lane from i to j has both its ends in the yard
abbrev pub InYard : {sli : ℕ} → List (Worker sli Lanes) → ℕ → ℕ → Type 0
InYard {sli} ws i j = (a : Worker sli Lanes) × (b : Worker sli Lanes) × (slice_get ws i ≡ Some a) × (slice_get ws j ≡ Some b) × HasLane i j a b

-- one lane was settled, and nothing else changed
pub record OnlyLaneSettled {sli : ℕ} (ws : List (Worker sli Lanes)) (i j : ℕ) (vs : List (Worker sli Lanes)) : Type 0 where
  pub a : Worker sli Lanes
  pub b : Worker sli Lanes
  pub v : Worker sli Lanes
  pub w : Worker sli Lanes
  pub a_is : slice_get ws i ≡ Some a
  pub b_is : slice_get ws j ≡ Some b
  pub after : vs ≡ slice_set (slice_set ws i v) j w
  pub settled : PairSettled i j a b v w

-- the lane from i to j has the same ends in both yards
abbrev pub SameLane : {sli : ℕ} → List (Worker sli Lanes) → List (Worker sli Lanes) → ℕ → ℕ → Type 0
SameLane ws vs i j = (post_at vs i j ≡ post_at ws i j) × (take_at vs i j ≡ take_at ws i j)

-- the ends of the lane from i to j in two yards that differ in no other lane and in no heap
pub record LaneChange {sli : ℕ} (ws vs : List (Worker sli Lanes)) (i j : ℕ) (p : PostEnd) (t : TakeEnd) (q : PostEnd) (u : TakeEnd) : Type 0 where
  pub post_is : post_at ws i j ≡ Some p
  pub take_is : take_at ws i j ≡ Some t
  pub new_post_is : post_at vs i j ≡ Some q
  pub new_take_is : take_at vs i j ≡ Some u
  pub same : (x y : ℕ) → (x ≡ i → y ≡ j → ⊥) → SameLane ws vs x y
  pub heaps : map heap_of vs ≡ map heap_of ws
  pub numbers : map id_and_capacity vs ≡ map id_and_capacity ws
  pub len : length vs ≡ length ws
  pub lane : IsLane q u
  pub capacity : capacity_of q ≡ capacity_of p

-- the ends of the lanes to j from the workers below i have settled, and all others are the same
pub record ColumnSettled {sli : ℕ} (ws vs : List (Worker sli Lanes)) (i j : ℕ) : Type 0 where
  pub len : length vs ≡ length ws
  pub done : (x : ℕ) → x < i → x ≢ j → LaneSettled ws vs x j
  pub same : (x y : ℕ) → (y ≡ j → i ≤ x) → SameLane ws vs x y

-- the ends of the lanes to the workers below j have settled, and all others are the same
pub record EachColumnSettled {sli : ℕ} (ws vs : List (Worker sli Lanes)) (j : ℕ) : Type 0 where
  pub len : length vs ≡ length ws
  pub done : (x y : ℕ) → y < j → x < length ws → x ≢ y → LaneSettled ws vs x y
  pub same : (x y : ℕ) → j ≤ y → SameLane ws vs x y
