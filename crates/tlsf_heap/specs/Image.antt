-- The blocks that the words of a region and its start map show.
use Rattle.std.specs.Prelude.{◌≡◌, ℕ, ◌+◌, ◌*◌, ◌^◌, ◌<◌, ◌≤◌, List, [], ◌∷◌, Bool, true, false, ◌==◌, length, slice_index, slice_index_or, ⊤}
use Rattle.std.specs.List.{AllByRecursion}
use Rattle.tlsf_words.specs.Lists.{nowhere}
use Rattle.tlsf_words.specs.Bytes.{bytes_in}
use Rattle.tlsf_words.specs.Fields.{tag_word, length_word}
use Rattle.tlsf_heap.specs.Blocks.{Block, Live, Free, size_of, words_in, is_free}
use Rattle.tlsf_heap.specs.Lawful.{HasRoom}

-- what is stored in a region: its words, and for each of them whether a block starts at it
pub record Image : Type 0 where
  pub words : List ℕ
  pub starts : List Bool

-- the second word of a header: the serial of a live block, or the stamp of a free one
abbrev pub mark_of : Block → ℕ
mark_of (Live size serial bytes) = serial
mark_of (Free size stamp) = stamp

-- the third word of a live header is the payload length, and the payload is behind it
abbrev pub HoldsPayload : List ℕ → ℕ → Block → Type 0
HoldsPayload words at (Live size serial bytes) = (slice_index words (at + 2) ≡ length_word (length bytes)) × (bytes_in words (8 * (at + 3)) (length bytes) ≡ bytes)
HoldsPayload words at (Free size stamp) = ⊤

-- in this many places a block starts at the first and at no other
pub record StartsOnce (starts : List Bool) (at size : ℕ) : Type 0 where
  pub first : slice_index_or starts at false ≡ true
  pub others : (k : ℕ) → at < k → k < at + size → slice_index_or starts k false ≡ false

-- the words from a place on, and their start bits, are those of this block; the block before it begins at `back`
pub record BlockAt (m : Image) (at back : ℕ) (block : Block) : Type 0 where
  pub tag : slice_index m.words at ≡ tag_word (size_of block) (at + size_of block == length m.words) (is_free block) back
  pub mark : slice_index m.words (at + 1) ≡ mark_of block
  pub payload : HoldsPayload m.words at block
  pub starts : StartsOnce m.starts at (size_of block)

-- the words from a place on show these blocks, one behind the other
abbrev pub ShowsFrom : Image → ℕ → ℕ → List Block → Type 0
ShowsFrom m at back [] = ⊤
ShowsFrom m at back (block ∷ blocks) = BlockAt m at back block × ShowsFrom m (at + size_of block) at blocks

-- where the last of some blocks begins, if the first begins at `at`; `back` where there are none
abbrev pub back_behind : ℕ → ℕ → List Block → ℕ
back_behind at back [] = back
back_behind at back (block ∷ blocks) = back_behind (at + size_of block) at blocks

-- the words and the start map of a region show these blocks, which fill it
pub record Shows (m : Image) (blocks : List Block) : Type 0 where
  pub shown : ShowsFrom m 0 nowhere blocks
  pub whole : words_in blocks ≡ length m.words
  pub mapped : length m.starts ≡ length m.words
  pub rooms : AllByRecursion HasRoom blocks
  pub small : length m.words ≤ 2 ^ 24
