-- An arena whose blocks are away by slots.
use Rattle.std.specs.Prelude.{◌≡◌, ℕ, ◌+◌, ◌<◌, ◌≤◌, Bool, true, false, List, [], ◌∷◌, ◌++◌, length, count_by, Option, Some, None, is_none, slice_get, slice_set, take}
use base.Fml.{GName}
use Rattle.linked_list_allocator.specs.Region.{Region}
use Rattle.atomic_table.specs.Seated.{TableId}
use Rattle.tlsf_heap.specs.Blocks.{HeapState}
use Rattle.tlsf_heap.specs.Memory.{Extent}
use Rattle.tlsf_heap.specs.Calls.{last_tick, released}
use Rattle.tlsf_arena.specs.Effects.{HasHome}
use Rattle.tlsf_pool_arena.specs.PoolArenas.{PoolArenaState, SamePlan}
use Rattle.tlsf_pool_arena.specs.declared.parcel.Parcel.{Parcel}

-- numbers of slots, the memory of their list, and how often one was read or written
pub record CountedSlots : Type 0 where
  pub slots : List ℕ
  pub extent : Extent
  pub steps : ℕ

-- one step more, and no memory is taken or given back
pub record StepsOnce (old new : CountedSlots) : Type 0 where
  pub stays : new.extent ≡ old.extent
  pub steps : new.steps ≡ old.steps + 1

-- the view of the arena: the pool's arena, the block that is away by each slot, and the looks that it had at slots. Each look
-- tells whether the block was home then. Also the slots by which none is away; the next block goes out by the last of these. Also
-- the memory of that list, how often an entry of it was read or written, and which slots they are
pub record RemoteState (u : ℕ) : Type 0 where
  pub arena : PoolArenaState
  pub away : List (Option (Parcel u))
  pub looks : List (ℕ × Bool)
  pub idle : List ℕ
  pub extent : Extent
  pub steps : ℕ
  pub slots : TableId

-- a block of this memory, whose right is of this book
abbrev pub IsFrom : {u : ℕ} → Region → GName → Parcel u → Type 0
IsFrom region book b = HasHome region book b.block

-- each block that is away is one of this memory and this book
pub record AreAway (u : ℕ) (region : Region) (book : GName) (away : List (Option (Parcel u))) : Type 0 where
  pub from : (k : ℕ) (b : Parcel u) → slice_get away k ≡ Some (Some b) → IsFrom region book b

-- a block is away from now on by a slot by which none was
abbrev pub IsAwayBy : {u : ℕ} → List (Option (Parcel u)) → List (Option (Parcel u)) → ℕ → Parcel u → Type 0
IsAwayBy old new at b = (slice_get old at ≡ Some None) × (new ≡ slice_set old at (Some b))

-- by how many slots none is away
abbrev pub idle_slots : {u : ℕ} → List (Option (Parcel u)) → ℕ
idle_slots away = count_by is_none away

-- no slot is lost: there are as many as blocks may be held, and by all but as many as are held none is away
pub record NoneLost {u : ℕ} (r : RemoteState u) : Type 0 where
  pub all : length r.away ≡ r.arena.most
  pub idle : idle_slots r.away + r.arena.held ≡ r.arena.most

-- the first n entries of a list of this many are the slots by which none is away, each another one
pub record AreIdle (u count n : ℕ) (idle : List ℕ) (away : List (Option (Parcel u))) : Type 0 where
  pub long : length idle ≡ count
  pub all : idle_slots away ≡ n
  pub free : (k at : ℕ) → k < n → slice_get idle k ≡ Some at → slice_get away at ≡ Some None
  pub apart : (j k at : ℕ) → j < n → k < n → slice_get idle j ≡ Some at → slice_get idle k ≡ Some at → j ≡ k

-- a call of this many touches of the heap at most, and this many steps on the list of idle slots. It compares no address. The slots,
-- the bounds and all memory stay
pub record GoesOn {u : ℕ} (most few : ℕ) (old new : RemoteState u) : Type 0 where
  pub own : new.slots ≡ old.slots
  pub plan : SamePlan old.arena new.arena
  pub stays : new.extent ≡ old.extent
  pub touches : new.arena.touches ≤ old.arena.touches + most
  pub compared : new.arena.compared ≡ old.arena.compared
  pub steps : new.steps ≤ old.steps + few

-- ---- a look at each slot in turn, and what each saw

-- the looks, from slot k on
abbrev pub looks_from : ℕ → List Bool → List (ℕ × Bool)
looks_from k [] = []
looks_from k (home ∷ seen) = (k, home) ∷ looks_from (k + 1) seen

-- the slots whose block was home, from slot k on
abbrev pub home_from : ℕ → List Bool → List ℕ
home_from k [] = []
home_from k (true ∷ seen) = k ∷ home_from (k + 1) seen
home_from k (false ∷ seen) = home_from (k + 1) seen

-- what is away by each slot once the blocks that were home are taken
abbrev pub still_away : {u : ℕ} → List (Option (Parcel u)) → List Bool → List (Option (Parcel u))
still_away [] seen = []
still_away (b ∷ away) [] = b ∷ away
still_away (b ∷ away) (true ∷ seen) = None ∷ still_away away seen
still_away (b ∷ away) (false ∷ seen) = b ∷ still_away away seen

-- the heap once they are released, in this order
abbrev pub home_released : {u : ℕ} → HeapState → List (Option (Parcel u)) → List Bool → HeapState
home_released h [] seen = h
home_released h (b ∷ away) [] = h
home_released h (Some b ∷ away) (true ∷ seen) = home_released (released h b.block.name).heap away seen
home_released h (None ∷ away) (true ∷ seen) = home_released h away seen
home_released h (b ∷ away) (false ∷ seen) = home_released h away seen

-- each look came before the last tick: the looks before it had left another one
abbrev pub LookedInTime : {u : ℕ} → HeapState → List (Option (Parcel u)) → List Bool → Type 0
LookedInTime h away seen = (k : ℕ) → k < length seen → ¬ ((home_released h away (take k seen)).tick ≡ last_tick)

-- each block that was home when it was looked at is taken and released, and no other. Slots are looked at in turn, until all were or
-- the last tick came: so just those are left out that come after it
pub record TakesHome {u : ℕ} (old new : RemoteState u) (seen : List Bool) : Type 0 where
  pub looks : new.looks ≡ old.looks ++ looks_from 0 seen
  pub away : new.away ≡ still_away old.away seen
  pub heap : new.arena.heap ≡ home_released old.arena.heap old.away seen
  pub idle : new.idle ≡ old.idle ++ home_from 0 seen
  pub whole : ¬ (new.arena.heap.tick ≡ last_tick) → length seen ≡ length old.away
  pub in_time : LookedInTime old.arena.heap old.away seen
