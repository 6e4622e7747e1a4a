-- The view of a worker: its heap and its number.
use Rattle.std.specs.Prelude.{◌≡◌, ℕ, ◌+◌, List, [], ◌∷◌, Option, Some, None, ◌<◌, ◌≤◌, ◌≢◌, vec_capacity}
use Rattle.tlsf_crew.specs.Common.{Vec, Global, Extent, HeapState, IsLawful, Seen, Shown, seen, Worker}
use Rattle.std.specs.Vec.{vec_ptr}

abbrev pub heap_of : {sli : ℕ} {P : Type 0} → Worker sli P → HeapState
heap_of a = a.heap.heap

-- all that its heap shows: its blocks, its memory, how often that was touched, and which words
abbrev pub shown_of : {sli : ℕ} {P : Type 0} → Worker sli P → Shown
shown_of a = a.heap

-- how many times a worker's calls touched its heap's memory
abbrev pub touches_of : {sli : ℕ} {P : Type 0} → Worker sli P → ℕ
touches_of a = a.heap.touches

-- which words of it they touched
abbrev pub touched_of : {sli : ℕ} {P : Type 0} → Worker sli P → List ℕ
touched_of a = a.heap.touched

-- what its heap shows of a call
abbrev pub seen_of : {sli : ℕ} {P : Type 0} → Worker sli P → Seen
seen_of a = seen a.heap

abbrev pub id_of : {sli : ℕ} {P : Type 0} → Worker sli P → ℕ
id_of a = a.id

-- a worker with another heap
abbrev pub SameButHeap : {sli : ℕ} {P : Type 0} → Worker sli P → Worker sli P → Type 0
SameButHeap a v = (id_of v ≡ id_of a) × (v.ports ≡ a.ports)

-- a worker with other ports
abbrev pub SameButPorts : {sli : ℕ} {P : Type 0} → Worker sli P → Worker sli P → Type 0
SameButPorts a v = (id_of v ≡ id_of a) × (v.heap ≡ a.heap)

-- its calls take no memory and give none back. The memory of its heap and that of its ports lie where they lay, and are as large
abbrev pub Stays : {sli : ℕ} {P : Type 0} → (P → List Extent) → Worker sli P → Worker sli P → Type 0
Stays extents a v = (v.heap.extents ≡ a.heap.extents) × (extents v.ports ≡ extents a.ports)

-- a call of the own heap changes nothing else of the worker, which fits its yard as before, and takes no memory
pub record LeavesRest {sli : ℕ} {P : Type 0} (fits : (level : ℕ) → Worker level P → Worker level P → Type 0) (extents : P → List Extent) (a v : Worker sli P) : Type 0 where
  pub same : SameButHeap a v
  pub yard : fits sli a v
  pub stays : Stays extents a v

-- a call makes at most this number of touches of the own heap's memory, and takes no memory
pub record WorksWithin {sli : ℕ} {P : Type 0} (extents : P → List Extent) (most : ℕ) (a v : Worker sli P) : Type 0 where
  pub touches : touches_of v ≤ touches_of a + most
  pub touches_rise : touches_of a ≤ touches_of v
  pub stays : Stays extents a v

-- and the worker fits its yard as before
pub record WorksInYard {sli : ℕ} {P : Type 0} (fits : Worker sli P → Worker sli P → Type 0) (extents : P → List Extent) (most : ℕ) (a v : Worker sli P) : Type 0 where
  pub yard : fits a v
  pub within : WorksWithin extents most a v

-- the memory of a list
abbrev pub extent_of : {X : Type 0} → Vec X Global → Extent
extent_of v = record { address = vec_ptr v; capacity = vec_capacity v }

-- the memory of the ends that are there, each by what an end shows of it
abbrev pub end_extents : {X : Type 0} → (X → Extent) → List (Option X) → List Extent
end_extents by [] = []
end_extents by (None ∷ ends) = end_extents by ends
end_extents by (Some end ∷ ends) = by end ∷ end_extents by ends

-- the heap k has the number of h, and is lawful where h is
abbrev pub KeepsHeap : HeapState → HeapState → Type 0
KeepsHeap h k = (k.id ≡ h.id) × (IsLawful h → IsLawful k)

-- a lawful heap of that number
abbrev pub IsHeapOf : ℕ → HeapState → Type 0
IsHeapOf i h = (h.id ≡ i) × IsLawful h

-- j is another of n workers
abbrev pub IsOther : ℕ → ℕ → ℕ → Type 0
IsOther n at j = (j < n) × (j ≢ at)

abbrev pub slot_of : {X : Type 0} → Option (Option X) → Option X
slot_of None = None
slot_of (Some o) = o
