-- C's calls by place, and a heap.
use Rattle.std.specs.Prelude.{ℕ, List, Option, Some, None}
use Rattle.tlsf_heap.specs.Blocks.{Block}
use Rattle.tlsf_heap.specs.Placed.{placed_at}
use Rattle.tlsf_heap.specs.declared.placed_block.PlacedBlock.{PlacedBlock}
use Rattle.tlsf_heap.specs.declared.placed_block.Content.{Content}
use Rattle.tlsf_heap.specs.declared.placed_block.Content.TheVariants as content

-- the payload length in bytes of what a block holds, none where it is free
abbrev pub length_of : Content → Option ℕ
length_of (content.Live serial length) = Some length
length_of (content.Free stamp) = None

abbrev pub length_in : Option PlacedBlock → Option ℕ
length_in None = None
length_in (Some b) = length_of b.content

-- that of the live block that begins at this place, if one does
abbrev pub length_at : List Block → ℕ → Option ℕ
length_at blocks at = length_in (placed_at blocks at)
