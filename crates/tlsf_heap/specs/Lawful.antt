-- The facts of a heap before and after each call.
use Rattle.std.specs.Prelude.{◌≡◌, ℕ, ◌≤◌, ◌<◌, List, [], ◌∷◌, length, ⊤}
use Rattle.std.specs.List.{AllByRecursion}
use Rattle.tlsf_class.specs.Classes.{most_words}
use Rattle.tlsf_words.specs.Lists.{AreDistinct}
use Rattle.tlsf_heap.specs.Blocks.{Block, Live, Free, HeapState, words_in, serials, stamps, words_for}

-- a number of words that a region of a level may have
abbrev pub IsRegion : ℕ → ℕ → Type 0
IsRegion sli words = (4 ≤ words) × (words ≤ most_words sli)

-- a block has four words, and a live one holds its payload
abbrev pub HasRoom : Block → Type 0
HasRoom (Live size serial bytes) = (4 ≤ size) × (words_for (length bytes) ≤ size)
HasRoom (Free size stamp) = 4 ≤ size

-- no two free blocks are neighbours
abbrev pub FreeBlocksAreApart : List Block → Type 0
FreeBlocksAreApart [] = ⊤
FreeBlocksAreApart (Live size serial bytes ∷ blocks) = FreeBlocksAreApart blocks
FreeBlocksAreApart (Free size stamp ∷ []) = ⊤
FreeBlocksAreApart (Free size stamp ∷ Live m serial bytes ∷ blocks) = FreeBlocksAreApart blocks
FreeBlocksAreApart (Free size stamp ∷ Free m s ∷ blocks) = ⊥

-- the region has four words; the blocks fill it, each with its room; free blocks don't touch. Serials differ, stamps differ, and all
-- are of past ticks
pub record IsLawful (h : HeapState) : Type 0 where
  pub rooms : AllByRecursion HasRoom h.blocks
  pub whole : words_in h.blocks ≡ h.words
  pub least : 4 ≤ h.words
  pub apart : FreeBlocksAreApart h.blocks
  pub serials_differ : AreDistinct (serials h.blocks)
  pub stamps_differ : AreDistinct (stamps h.blocks)
  pub serials_past : AllByRecursion (λ s. s < h.tick) (serials h.blocks)
  pub stamps_past : AllByRecursion (λ s. s < h.tick) (stamps h.blocks)
