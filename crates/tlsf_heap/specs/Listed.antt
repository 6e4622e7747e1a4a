-- The free lists of a region: whose places are in them, and how its words keep them.
use Rattle.std.specs.Prelude.{◌≡◌, ℕ, suc, List, true, length, map, Contains}
use Rattle.tlsf_heap.specs.Image.{Image, Shows}
use Rattle.tlsf_words.specs.Lists.{ListHeads, places_from, list_of, AreThreaded}
use Rattle.tlsf_heap.specs.Blocks.{Block, is_free, StandsAt}
use Rattle.tlsf_heap.specs.GoodFit.{block_at}
use Rattle.tlsf_heap.specs.Read.{blocks_of}

-- each place in a list is that of a free block
abbrev pub AreFreeBlocks : (ℕ → List ℕ) → List Block → Type 0
AreFreeBlocks lists blocks = (class at : ℕ) → Contains (lists class) at → (i : ℕ) × StandsAt blocks at i × (is_free (block_at blocks i) ≡ true)

-- for each class the list that begins at its head
unfoldable pub lists_of : List ℕ → List ℕ → List (List ℕ)
lists_of heads words = map (places_from (suc (length words)) words) heads

-- the words of a region show blocks, and their links thread lists of free ones
pub record HoldsLists (sli : ℕ) (m : Image) (lists : ListHeads) : Type 0 where
  pub shows : Shows m (blocks_of m.words)
  pub threaded : AreThreaded sli lists.heads lists.members m.words
  pub free : AreFreeBlocks (list_of lists.heads m.words) (blocks_of m.words)
