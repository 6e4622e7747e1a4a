-- An arena as contracts see it, and the calls on its heap.
use Rattle.std.specs.Prelude.{◌≡◌, ℕ, ◌+◌, ◌*◌, ◌/◌, ◌^◌, ◌≤◌, List, Bool, Some, length}
use base.Fml.{GName}
use Rattle.linked_list_allocator.specs.Region.{Region}
use Rattle.tlsf_class.specs.Classes.{IsLevel}
use Rattle.tlsf_heap.specs.Blocks.{HeapState, size_of, bytes_of}
use Rattle.tlsf_heap.specs.GoodFit.{Site}
use Rattle.tlsf_heap.specs.Memory.{Extents}
use Rattle.tlsf_heap.specs.Calls.{Outcome, named, allocated_words, resized_words}
use Rattle.tlsf_heap.specs.declared.name.Name.{Name}
use Rattle.tlsf_arena.specs.Units.{IsUnit, units_for, lacking, held_units, free_map, spread}

-- the heap that decides, the memory that is cut, the book of the blocks that are out, and the heap's own memory. Also whether the
-- memory that is cut was taken from an allocator, which gets it back. Also the heap's touches, and how often an address was compared
-- with that of a unit
pub record ArenaState : Type 0 where
  pub heap : HeapState
  pub region : Region
  pub book : GName
  pub extents : Extents
  pub leased : Bool
  pub touches : ℕ
  pub compared : ℕ

-- what the heap answers to a request of n bytes, in units of u bytes
abbrev pub requested : ℕ → ℕ → HeapState → ℕ → Outcome Name
requested sli u h n = allocated_words sli h (units_for u n) (lacking (units_for u n))

-- what the heap answers where a block is to have n bytes, in units of u bytes
abbrev pub refitted : ℕ → HeapState → Name → ℕ → Outcome (Unit {0})
refitted u h name n = resized_words h name (units_for u n) (lacking (units_for u n))

-- a live block of the heap has this name, and k units were wanted for it
abbrev pub Holds : HeapState → Name → ℕ → Type 0
Holds h name k = (s : Site) × (name.heap ≡ h.id) × (named name h.blocks ≡ Some s) × (held_units (size_of s.block) (length (bytes_of s.block)) ≡ k)

-- the same memory, which was taken or handed in as before, and the same book. No memory is taken or given back: that of the heap
-- stays where it is, and as large
abbrev pub SameHome : ArenaState → ArenaState → Type 0
SameHome old new = (new.region ≡ old.region) × (new.book ≡ old.book) × (new.extents ≡ old.extents) × (new.leased ≡ old.leased)

-- the same heap besides. Only the counts of steps may differ
abbrev pub SameArena : ArenaState → ArenaState → Type 0
SameArena old new = (new.heap ≡ old.heap) × SameHome old new

-- where a place is the first of two guesses it is found by one comparison, and where it is the second by two
abbrev pub IsFoundByGuess : ℕ → ℕ × ℕ → ℕ → ℕ → Type 0
IsFoundByGuess at guesses before behind = (guesses.0 ≡ at → behind ≤ before + 1) × (guesses.1 ≡ at → behind ≤ before + 2)

-- the map of free grains, sixteen bytes each, is that of the heap's units: this many, of u bytes each
pub record IsMapped (sli u units : ℕ) (h : HeapState) (free : List Bool) : Type 0 where
  pub level : IsLevel sli
  pub unit : IsUnit u
  pub least : 4 ≤ units
  pub most : units ≤ 2 ^ 24
  pub map : free ≡ spread (u / 16) (free_map h.blocks)
  pub whole : length free ≡ u / 16 * units
