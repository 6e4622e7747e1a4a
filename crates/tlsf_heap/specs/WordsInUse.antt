-- The words in use: those of the live blocks, their headers with them.
use Rattle.std.specs.Prelude.{ℕ, ◌+◌, ◌==◌, List, Option, Some, None, Result, Ok, Err, max, if◌then◌else◌}
use Rattle.tlsf_heap.specs.Blocks.{Block, HeapState, words_in}
use Rattle.tlsf_heap.specs.Placed.{placed_at}
use Rattle.tlsf_heap.specs.Reports.{live_among}
use Rattle.tlsf_heap.specs.Shown.{Shown}
use Rattle.tlsf_heap.specs.declared.placed_block.PlacedBlock.{PlacedBlock}
use Rattle.tlsf_heap.specs.declared.placed_block.Content.{Content}
use Rattle.tlsf_heap.specs.declared.placed_block.Content.TheVariants as content
use Rattle.tlsf_heap.specs.declared.name.Name.{Name}
use Rattle.tlsf_heap.specs.declared.refusal.Refusal.{Refusal}

-- those of some blocks
abbrev pub words_used : List Block → ℕ
words_used blocks = words_in (live_among blocks)

abbrev pub words_in_use : HeapState → ℕ
words_in_use h = words_used h.blocks

-- those in use of this many words, by what the block holds
abbrev pub words_held : ℕ → Content → ℕ
words_held size (content.Live serial length) = size
words_held size (content.Free stamp) = 0

abbrev pub live_words : Option PlacedBlock → ℕ
live_words None = 0
live_words (Some b) = words_held b.size b.content

-- the words of the live block that begins at a place, 0 where none does
abbrev pub words_at : HeapState → ℕ → ℕ
words_at h at = live_words (placed_at h.blocks at)

-- the most words ever in use: as many as before, or those in use now
abbrev pub peak_of : Shown → Shown → ℕ
peak_of old new = max old.most_in_use (words_in_use new.heap)

-- the most that it was while the block at a place was resized and may have moved. While it moves, its old words are in use and the
-- new ones too
abbrev pub peak_moved : Shown → ℕ → Result Name Refusal → HeapState → ℕ
peak_moved old at (Err why) new = old.most_in_use
peak_moved old at (Ok name) new =
    if name.at == at then max old.most_in_use (words_in_use new) else max old.most_in_use (words_in_use old.heap + words_at new name.at)
