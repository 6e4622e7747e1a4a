-- Units in a region, the pieces that are cut from it, and the maps of what no live block holds.
use Rattle.std.specs.Prelude.{◌≡◌, ℕ, ◌+◌, ◌-◌, ◌*◌, ◌/◌, ◌%◌, ◌^◌, ◌<◌, ◌≤◌, max, Bool, true, false, ◌||◌, ◌==◌, IsTrue, List, [], ◌∷◌, ◌++◌, length, replicate, take, drop, Option, Some, None}
use denote.RawPtr.{Ptr, block_ptr, block_of, count_of, InBlock}
use Rattle.linked_list_allocator.specs.Region.{Region}
use Rattle.tlsf_class.specs.Classes.{IsLevel}
use Rattle.tlsf_heap.specs.Blocks.{Block, Live, Free}
use Rattle.tlsf_heap.specs.Placed.{placed_at}
use Rattle.tlsf_heap.specs.declared.placed_block.PlacedBlock.{PlacedBlock}
use Rattle.tlsf_heap.specs.declared.placed_block.Content.{Content}
use Rattle.tlsf_heap.specs.declared.placed_block.Content.TheVariants as content

-- ---- units

-- the bytes that a unit may have
abbrev pub IsUnit : ℕ → Type 0
IsUnit u = IsTrue (u == 16 || (u == 32 || u == 64))

-- a level and the bytes of a unit that an arena may have
abbrev pub IsArenaOf : ℕ → ℕ → Type 0
IsArenaOf sli u = IsLevel sli × IsUnit u

-- the units of u bytes that n bytes get: a block of the heap has four words or more
abbrev pub units_for : ℕ → ℕ → ℕ
units_for u n = max 4 ((n + (u - 1)) / u)

-- their bytes
abbrev pub piece_size : ℕ → ℕ → ℕ
piece_size u n = u * units_for u n

-- what k units lack of a multiple of four: the payload length of a block that is asked for k units, 0 to 3 bytes
abbrev pub lacking : ℕ → ℕ
lacking k = (4 - k % 4) % 4

-- an address and memory at `base` that lies in one object with it and is cut into this many units of u bytes
pub record AreUnits (ptr base : Ptr) (u units : ℕ) : Type 0 where
  pub pointers : InBlock base × InBlock ptr × (block_of ptr ≡ block_of base) × (count_of base + u * units < 2 ^ 63) × (count_of ptr < 2 ^ 63)
  pub unit : IsUnit u

-- ---- pieces

-- a size that a piece at this distance from the region's start may have
abbrev pub IsPieceSize : ℕ → ℕ → Type 0
IsPieceSize n distance = (16 ≤ n) × (n % 16 ≡ 0) × (distance % 16 ≡ 0)

-- p is the place `at` of the region, and n bytes from there lie in it
abbrev pub IsPiece : Region → Ptr → ℕ → ℕ → Type 0
IsPiece r p at n = (p ≡ block_ptr r.block at) × (r.start ≤ at) × (at + n ≤ r.end) × (r.end < 2 ^ 63) × IsPieceSize n (at - r.start)

-- ---- maps: what is free is `true`

-- the number of the 16 bytes that a place lies in
abbrev pub grain_of : Region → ℕ → ℕ
grain_of r at = (at - r.start) / 16

-- k entries from number `at` on are all free, or all held
abbrev pub IsRun : List Bool → ℕ → ℕ → Bool → Type 0
IsRun free at k v = (p : List Bool × List Bool) × (free ≡ p.0 ++ (replicate k v ++ p.1)) × (length p.0 ≡ at)

-- the map with these entries free, or held
abbrev pub marked : List Bool → ℕ → ℕ → Bool → List Bool
marked free at k v = take at free ++ (replicate k v ++ drop (at + k) free)

-- a map in which each entry stands n times
abbrev pub spread : ℕ → List Bool → List Bool
spread n [] = []
spread n (b ∷ free) = replicate n b ++ spread n free

-- the units that a live block of the heap holds. They are those of its size that were asked for, a multiple of four by its payload
-- length. Up to three more words that the heap gave it stay behind them
abbrev pub held_units : ℕ → ℕ → ℕ
held_units size len = size - (size + len) % 4

-- the units of a heap's blocks that no live block holds
abbrev pub free_map : List Block → List Bool
free_map [] = []
free_map (Live size serial bytes ∷ blocks) =
    replicate (held_units size (length bytes)) false ++ (replicate (size - held_units size (length bytes)) true ++ free_map blocks)
free_map (Free size stamp ∷ blocks) = replicate size true ++ free_map blocks

-- ---- what a look at a block tells

-- the units that a block holds, where it is live
abbrev pub held_by : ℕ → Content → Option ℕ
held_by size (content.Live serial len) = Some (held_units size len)
held_by size (content.Free stamp) = None

abbrev pub held_in : Option PlacedBlock → Option ℕ
held_in None = None
held_in (Some block) = held_by block.size block.content

-- the units that the live block at a place holds
abbrev pub held_at : List Block → ℕ → Option ℕ
held_at blocks at = held_in (placed_at blocks at)

-- the size of a free block, or 0
abbrev pub free_size : ℕ → Content → ℕ
free_size size (content.Live serial len) = 0
free_size size (content.Free stamp) = size

abbrev pub free_units_in : Option PlacedBlock → ℕ
free_units_in None = 0
free_units_in (Some block) = free_size block.size block.content
