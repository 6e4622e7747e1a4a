-- The view of a worker over lanes: its capacity, and its end of each lane.
use Rattle.std.specs.Prelude.{◌≡◌, ◌≢◌, ℕ, ◌-◌, ◌<◌, List, [], ◌∷◌, ◌++◌, length, Option, Some, Result, slice_get, OnOk, IfErr, IsOk, IfSome, IfNone, IsSome, ◌↔◌, ◌≤◌}
use Rattle.tlsf_crew.specs.Common.{IsPrefix, Extent, Extents, Post, PostEnd, TakeEnd, posts_sent, free_slots, waited, taken, ready, post_extent, take_extent, KeepsPost, KeepsTake, Worker, Lanes}
use Rattle.tlsf_crew.specs.worker.Workers.{id_of, SameButPorts, slot_of, extent_of, end_extents}

-- a worker's own number, and the capacity of its lanes
abbrev pub id_and_capacity : {sli : ℕ} → Worker sli Lanes → ℕ × ℕ
id_and_capacity a = (a.id, a.ports.capacity)

-- the end that posts to worker j
abbrev pub lane_to : Lanes → ℕ → Option PostEnd
lane_to p j = slot_of (slice_get p.posts.items j)

abbrev pub end_to : {sli : ℕ} → Worker sli Lanes → ℕ → Option PostEnd
end_to a = lane_to a.ports

-- the end that takes from worker i
abbrev pub lane_from : Lanes → ℕ → Option TakeEnd
lane_from p i = slot_of (slice_get p.takes.items i)

abbrev pub end_from : {sli : ℕ} → Worker sli Lanes → ℕ → Option TakeEnd
end_from a = lane_from a.ports

-- the memory of the lists of ends, and of each lane
abbrev pub lane_extents : Lanes → List Extent
lane_extents p = extent_of p.posts ∷ extent_of p.takes ∷ end_extents post_extent p.posts.items ++ end_extents take_extent p.takes.items

-- with that of the heap, all memory of the worker
abbrev pub lane_memory : {sli : ℕ} → Worker sli Lanes → Extents × List Extent
lane_memory a = (a.heap.extents, lane_extents a.ports)

-- how many workers a worker may have lanes from: it has none from this number on
abbrev pub lane_places : {sli : ℕ} → Worker sli Lanes → ℕ
lane_places a = length a.ports.takes.items

abbrev pub ReachesLane : Lanes → ℕ → Type 0
ReachesLane p j = (end : PostEnd) × (lane_to p j ≡ Some end)

abbrev pub HasPost : {sli : ℕ} → Worker sli Lanes → ℕ → Type 0
HasPost a = ReachesLane a.ports

abbrev pub HearsLane : Lanes → ℕ → Type 0
HearsLane p i = (t : TakeEnd) × (lane_from p i ≡ Some t)

abbrev pub HasTake : {sli : ℕ} → Worker sli Lanes → ℕ → Type 0
HasTake a = HearsLane a.ports

-- the lanes q are p with the end to j after a put
pub record PutThrough (p q : Lanes) (j : ℕ) (post : Post) (answer : Result (Unit {0}) Post) : Type 0 where
  pub end : PostEnd
  pub new_end : PostEnd
  pub end_is : lane_to p j ≡ Some end
  pub new_end_is : lane_to q j ≡ Some new_end
  pub others : (k : ℕ) → k ≢ j → lane_to q k ≡ lane_to p k
  pub same : (q.capacity ≡ p.capacity) × (lane_from q ≡ lane_from p)
  pub lane : KeepsPost end new_end
  pub ok : OnOk answer ((posts_sent new_end ≡ posts_sent end ++ post ∷ []) × (free_slots new_end ≡ free_slots end - 1))
  pub full : IfErr answer (λ back. (back ≡ post) × (posts_sent new_end ≡ posts_sent end) × (free_slots new_end ≡ free_slots end))
  pub succeeds : 0 < free_slots end → IsOk answer

-- worker v is a with its end to j after a put
abbrev pub PostEndPut : {sli : ℕ} → Worker sli Lanes → Worker sli Lanes → ℕ → Post → Result (Unit {0}) Post → Type 0
PostEndPut a v j post answer = SameButPorts a v × PutThrough a.ports v.ports j post answer

-- the lanes q are p with the end from i after a take
pub record TookThrough (p q : Lanes) (i : ℕ) (answer : Option Post) : Type 0 where
  pub end : TakeEnd
  pub new_end : TakeEnd
  pub end_is : lane_from p i ≡ Some end
  pub new_end_is : lane_from q i ≡ Some new_end
  pub others : (k : ℕ) → k ≢ i → lane_from q k ≡ lane_from p k
  pub same : (q.capacity ≡ p.capacity) × (lane_to q ≡ lane_to p)
  pub lane : KeepsTake end new_end
  pub still : waited new_end ≡ waited end
  pub some : IfSome answer (λ p. (taken new_end ≡ taken end ++ p ∷ []) × IsPrefix (ready end) (p ∷ ready new_end))
  pub none : IfNone answer (taken new_end ≡ taken end)
  pub succeeds : 0 < length (ready end) → IsSome answer

-- worker v is a with its end from i after a take
abbrev pub TakeEndTook : {sli : ℕ} → Worker sli Lanes → Worker sli Lanes → ℕ → Option Post → Type 0
TakeEndTook a v i answer = SameButPorts a v × TookThrough a.ports v.ports i answer

-- the worker is one of n, and has a lane to and from each other one and none else
pub record KnowsYard {sli : ℕ} (n : ℕ) (a : Worker sli Lanes) : Type 0 where
  pub few : n ≤ 8
  pub self : id_of a < n
  pub to : (j : ℕ) → HasPost a j ↔ ((j < n) × (j ≢ id_of a))
  pub from : (i : ℕ) → HasTake a i ↔ ((i < n) × (i ≢ id_of a))
