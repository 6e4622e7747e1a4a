-- How many units an arena needs whose blocks each have the units of their own length.
use Rattle.std.specs.Prelude.{◌≡◌, ℕ, ◌+◌, ◌-◌, ◌*◌, ◌<◌, ◌≤◌, [], Option, Some}
use Rattle.std.specs.List.{AllByRecursion}
use Rattle.tlsf_class.specs.Classes.{most_words}
use Rattle.tlsf_heap.specs.Blocks.{HeapState}
use Rattle.tlsf_heap.specs.Calls.{opened, released}
use Rattle.tlsf_heap.specs.GoodFit.{fits}
use Rattle.tlsf_heap.specs.Lawful.{IsLawful}
use Rattle.tlsf_heap.specs.declared.name.Name.{Name}
use Rattle.tlsf_pool.specs.laws.FixedSize.{HasFixedSize}
use Rattle.tlsf_pool.specs.laws.MixedSizes.{IsSmall, mixed_region, mixed_words}
use Rattle.tlsf_pool.specs.laws.Room.{live_count}
use Rattle.tlsf_arena.specs.Arenas.{refitted, requested}
use Rattle.tlsf_arena.specs.Units.{units_for}

-- the payload of a heap's block that has as many words as a block of n bytes has units, of u bytes each
abbrev pub length_for : ℕ → ℕ → ℕ
length_for u n = 8 * (units_for u n - 3)

-- the units of such an arena, where some heap has that many words
abbrev pub units_of_mixed : ℕ → ℕ → ℕ → ℕ → Option ℕ
units_of_mixed sli u most longest = mixed_region sli most (length_for u longest)

-- the heap is lawful and has words enough. No more blocks are live than may be, and none has more units than the longest request
-- gets and three more. Where it gets four, all have a fixed size of four
pub record IsMixedArena (sli u most longest : ℕ) (h : HeapState) : Type 0 where
  pub lawful : IsLawful h
  pub words : mixed_words sli most (length_for u longest) ≤ h.words
  pub class : units_for u longest ≤ most_words sli
  pub few : live_count h ≤ most
  pub small : AllByRecursion (IsSmall (units_for u longest + 3)) h.blocks
  pub fours : units_for u longest ≤ 4 → HasFixedSize 4 h

-- so is a new arena of these units
abbrev pub MixedUnitsBegin : ℕ → ℕ → Type 0
MixedUnitsBegin sli u = (id most longest units : ℕ) → units_of_mixed sli u most longest ≡ Some units → IsMixedArena sli u most longest (opened id units 0)

-- it stays so through the calls of a program within the bounds
pub record KeepsMixedArena (sli u most longest : ℕ) (h : HeapState) : Type 0 where
  pub allocate : (len : ℕ) → len ≤ longest → live_count h < most → IsMixedArena sli u most longest (requested sli u h len).heap
  pub release : (name : Name) → IsMixedArena sli u most longest (released h name).heap
  pub resize : (name : Name) (len : ℕ) → len ≤ longest → IsMixedArena sli u most longest (refitted u h name len).heap

abbrev pub MixedUnitsAreKept : ℕ → ℕ → Type 0
MixedUnitsAreKept sli u = (most longest : ℕ) (h : HeapState) → IsMixedArena sli u most longest h → KeepsMixedArena sli u most longest h

-- and a request within them finds room
abbrev pub MixedUnitsFindRoom : ℕ → ℕ → Type 0
MixedUnitsFindRoom sli u = (most longest len : ℕ) (h : HeapState) → IsMixedArena sli u most longest h → len ≤ longest → live_count h < most
    → ¬ (fits sli (units_for u len) h.blocks ≡ [])
