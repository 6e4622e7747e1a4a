-- The blocks of a region, read off its words.
use Rattle.std.specs.Prelude.{ℕ, zero, suc, ◌+◌, ◌*◌, List, [], ◌∷◌, nat_lt, if◌then◌else◌, length, slice_index}
use Rattle.tlsf_words.specs.Bytes.{bytes_in}
use Rattle.tlsf_words.specs.Fields.{size_in, free_in, low_half}
use Rattle.tlsf_heap.specs.Blocks.{Block, Live, Free, size_of}

-- the block whose header is at a place
unfoldable pub block_in : List ℕ → ℕ → Block
block_in words at =
    if free_in (slice_index words at) then Free (size_in (slice_index words at)) (slice_index words (at + 1))
    else Live (size_in (slice_index words at)) (slice_index words (at + 1)) (bytes_in words (8 * (at + 3)) (low_half (slice_index words (at + 2))))

-- the blocks from a place on, at most `most` of them
unfoldable pub blocks_from : ℕ → List ℕ → ℕ → List Block
blocks_from zero words at = []
blocks_from (suc most) words at = if nat_lt at (length words) then block_in words at ∷ blocks_from most words (at + size_of (block_in words at)) else []

-- the blocks of a region
unfoldable pub blocks_of : List ℕ → List Block
blocks_of words = blocks_from (length words) words 0
