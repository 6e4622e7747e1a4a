-- The blocks of a heap where they stand, as a walk over them shows them.
use Rattle.std.specs.Prelude.{ℕ, ◌+◌, ◌==◌, List, [], ◌∷◌, Option, find, length}
use Rattle.tlsf_heap.specs.Blocks.{Block, Live, Free, size_of}
use Rattle.tlsf_heap.specs.declared.placed_block.PlacedBlock.{PlacedBlock}
use Rattle.tlsf_heap.specs.declared.placed_block.Content.{Content}
use Rattle.tlsf_heap.specs.declared.placed_block.Content.TheVariants as content

-- what a block holds, without its bytes
abbrev pub content_of : Block → Content
content_of (Live size serial bytes) = content.Live serial (length bytes)
content_of (Free size stamp) = content.Free stamp

-- a block that begins at a place
abbrev pub placed : ℕ → Block → PlacedBlock
placed at block = record { at = at; size = size_of block; content = content_of block }

-- blocks that stand one behind the other, the first at a place
abbrev pub placed_from : ℕ → List Block → List PlacedBlock
placed_from at [] = []
placed_from at (block ∷ blocks) = placed at block ∷ placed_from (at + size_of block) blocks

-- the blocks of a heap, in the order of their places
abbrev pub placed_blocks : List Block → List PlacedBlock
placed_blocks blocks = placed_from 0 blocks

-- of the blocks of a heap the one that begins at this place, if one does
abbrev pub placed_at : List Block → ℕ → Option PlacedBlock
placed_at blocks at = find (λ b. b.at == at) (placed_blocks blocks)
