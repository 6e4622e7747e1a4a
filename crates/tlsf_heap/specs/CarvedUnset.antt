-- A free block that became a live one, and whose payload nobody filled.
use Rattle.std.specs.Prelude.{◌≡◌, ℕ, ◌++◌}
use Rattle.tlsf_heap.specs.Blocks.{size_of}
use Rattle.tlsf_heap.specs.Calls.{cut}
use Rattle.tlsf_heap.specs.FreePlaces.{AreFreeLists}
use Rattle.tlsf_heap.specs.GoodFit.{Site}
use Rattle.tlsf_heap.specs.Regions.{RegionState, Edits, list_in}
use Rattle.tlsf_heap.specs.Unset.{lying}

-- the block at a place is live, and has the `len` bytes that lie there. A rest of four words or more is a free block. The lists are of the free blocks, and the touches rise by `most` at most
pub record CarvedUnset (sli : ℕ) (old new : RegionState) (s : Site) (at words serial len most : ℕ) : Type 0 where
  pub blocks : new.blocks ≡ s.before ++ cut (size_of s.block) words serial serial (lying new.stored at len) ++ s.after
  pub listed : AreFreeLists sli new.blocks (list_in new.lists)
  pub edits : Edits old new most
