-- Which words of a region a call touches: those of headers and of free blocks, and the payload of the block that it is about. Words of other
-- live blocks' payloads it leaves.
use Rattle.std.specs.Prelude.{◌≡◌, ◌≢◌, ℕ, ◌+◌, ◌<◌, ◌≤◌, List, false}
use Rattle.tlsf_words.specs.Touched.{times}
use Rattle.tlsf_heap.specs.Blocks.{Block, size_of, is_free, StandsAt}
use Rattle.tlsf_heap.specs.GoodFit.{block_at}

-- word k is one of the block at index i, which begins at a place: this many words from its begin on, or more
pub record IsWordOf (blocks : List Block) (i at skip k : ℕ) : Type 0 where
  pub stands : StandsAt blocks at i
  pub behind : at + skip ≤ k
  pub within : k < at + size_of (block_at blocks i)

-- word k is one of the payload of a live block: any but the three of its header
abbrev pub IsLiveWord : List Block → ℕ → Type 0
IsLiveWord blocks k = (i at : ℕ) × IsWordOf blocks i at 3 k × (is_free (block_at blocks i) ≡ false)

-- no word was read or written but the first two of the header of a block that begins at a place. They are its tag and its serial
abbrev pub OnlyTagAndSerial : ℕ → List ℕ → List ℕ → Type 0
OnlyTagAndSerial at old new = (k : ℕ) → k ≢ at → k ≢ at + 1 → times new k ≡ times old k

-- no word of the payload of a live block was read or written
abbrev pub LeavesLive : List Block → List ℕ → List ℕ → Type 0
LeavesLive blocks old new = (k : ℕ) → IsLiveWord blocks k → times new k ≡ times old k

-- word k is one of the payload of a live block that begins elsewhere
abbrev pub IsOthersWord : List Block → ℕ → ℕ → Type 0
IsOthersWord blocks at k = (i other : ℕ) × IsWordOf blocks i other 3 k × (is_free (block_at blocks i) ≡ false) × (other ≢ at)

-- no word of the payload of a live block was read or written but of that at a place
abbrev pub LeavesPayloads : List Block → ℕ → List ℕ → List ℕ → Type 0
LeavesPayloads blocks at old new = (k : ℕ) → IsOthersWord blocks at k → times new k ≡ times old k

-- nor but of those at two places
abbrev pub LeavesBoth : List Block → ℕ → ℕ → List ℕ → List ℕ → Type 0
LeavesBoth blocks at other old new = (k : ℕ) → IsOthersWord blocks at k → IsOthersWord blocks other k → times new k ≡ times old k
