-- An arena with bounds on the blocks which a program holds, on their number and on the bytes of each. All have the same units.
use Rattle.std.specs.Prelude.{◌≡◌, ℕ, ◌+◌, ◌*◌, ◌≤◌, Bool, ◌&&◌, max, Option, Some, None, if◌then◌else◌, nat_le, nat_lt}
use base.Fml.{GName}
use Rattle.linked_list_allocator.specs.Region.{Region}
use Rattle.tlsf_class.specs.Classes.{IsLevel, most_words}
use Rattle.tlsf_heap.specs.Blocks.{HeapState}
use Rattle.tlsf_heap.specs.Calls.{Outcome, refused}
use Rattle.tlsf_heap.specs.Lawful.{IsLawful}
use Rattle.tlsf_heap.specs.Memory.{Extents}
use Rattle.tlsf_heap.specs.declared.name.Name.{Name}
use Rattle.tlsf_heap.specs.declared.refusal.Refusal.TheVariants.{NoRoom}
use Rattle.tlsf_pool.specs.laws.FixedSize.{HasFixedSize}
use Rattle.tlsf_pool.specs.laws.Room.{live_count, sure}
use Rattle.tlsf_arena.specs.Arenas.{ArenaState, refitted, requested}
use Rattle.tlsf_arena.specs.Units.{IsUnit, units_for}

-- the view of the arena: its heap, the region of its memory, the book of its blocks, and how many are held. Also how many may be
-- held at once and the bytes of the longest request, and the heap's own memory and touches. Also whether its memory was taken from an
-- allocator, which gets it back, and how often an address was compared with that of a unit
pub record PoolArenaState : Type 0 where
  pub heap : HeapState
  pub region : Region
  pub book : GName
  pub most : ℕ
  pub longest : ℕ
  pub held : ℕ
  pub extents : Extents
  pub leased : Bool
  pub touches : ℕ
  pub compared : ℕ

-- the units of each block, whatever its length: those from which every free block serves the longest request
abbrev pub fixed_size : ℕ → ℕ → ℕ → ℕ
fixed_size sli u longest = sure sli (units_for u longest)

-- their bytes, u each
abbrev pub fixed_bytes : ℕ → ℕ → ℕ → ℕ
fixed_bytes sli u longest = u * fixed_size sli u longest

-- the units with room for `most` such blocks
abbrev pub room_units : ℕ → ℕ → ℕ → ℕ → ℕ
room_units sli u most longest = max 4 (most * fixed_size sli u longest)

-- the units of such an arena; None where no class has blocks of that length, or no heap has that many words
abbrev pub units_of_pool : ℕ → ℕ → ℕ → ℕ → Option ℕ
units_of_pool sli u most longest =
    if nat_le (units_for u longest) (most_words sli) && nat_le (room_units sli u most longest) (most_words sli) then Some (room_units sli u most longest) else None

-- what the heap answers to a request within the bounds: it takes the units of each block, whatever its length
abbrev pub pool_requested : ℕ → ℕ → PoolArenaState → Outcome Name
pool_requested sli u p = requested sli u p.heap (fixed_bytes sli u p.longest)

-- what the arena answers where a block is to have n bytes: NoRoom above the longest request, else it has the units of each block
abbrev pub resized_in_pool : ℕ → ℕ → PoolArenaState → Name → ℕ → Outcome (Unit {0})
resized_in_pool sli u p name n = if nat_lt p.longest n then refused p.heap NoRoom else refitted u p.heap name (fixed_bytes sli u p.longest)

-- the heap has a level, is lawful and has words enough. As many blocks are live as are held, and no more than may be. All have the
-- units from which every free block serves the longest request
pub record IsPoolArena (sli u : ℕ) (p : PoolArenaState) : Type 0 where
  pub level : IsLevel sli
  pub unit : IsUnit u
  pub lawful : IsLawful p.heap
  pub words : p.most * fixed_size sli u p.longest ≤ p.heap.words
  pub class : units_for u p.longest ≤ most_words sli
  pub live : live_count p.heap ≡ p.held
  pub few : p.held ≤ p.most
  pub fixed : HasFixedSize (fixed_size sli u p.longest) p.heap

-- the same bounds: how many blocks may be held, and how long a request may be. The same memory, which was taken as before, and the
-- same book. No memory is taken or given back: that of the heap stays where it is, and as large
pub record SamePlan (old new : PoolArenaState) : Type 0 where
  pub region : new.region ≡ old.region
  pub book : new.book ≡ old.book
  pub most : new.most ≡ old.most
  pub longest : new.longest ≡ old.longest
  pub stays : new.extents ≡ old.extents
  pub leased : new.leased ≡ old.leased

-- the same heap besides, and the same number of blocks held. Only the touches may differ
pub record SamePoolArena (old new : PoolArenaState) : Type 0 where
  pub plan : SamePlan old new
  pub heap : new.heap ≡ old.heap
  pub held : new.held ≡ old.held

-- what the arena within shows
abbrev pub arena_of : PoolArenaState → ArenaState
arena_of p = record { heap = p.heap; region = p.region; book = p.book; extents = p.extents; leased = p.leased; touches = p.touches; compared = p.compared }

-- a call of this many touches of the heap at most, and no comparison of addresses. The bounds and the memory stay
pub record KeepsPlan (most : ℕ) (old new : PoolArenaState) : Type 0 where
  pub plan : SamePlan old new
  pub touches : new.touches ≤ old.touches + most
  pub touches_rise : old.touches ≤ new.touches
  pub compared : new.compared ≡ old.compared

-- a look of this many touches at most, and no comparison of addresses: the arena is the same
pub record Looks (most : ℕ) (old new : PoolArenaState) : Type 0 where
  pub same : SamePoolArena old new
  pub touches : new.touches ≤ old.touches + most
  pub touches_rise : old.touches ≤ new.touches
  pub compared : new.compared ≡ old.compared
