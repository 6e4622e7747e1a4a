-- A report on a heap, by sums and filters over its blocks.
use Rattle.std.specs.Prelude.{◌≡◌, ℕ, ◌+◌, ◌*◌, ◌-◌, ◌/◌, ◌≤◌, List, [], ◌∷◌, Bool, ◌==◌, nat_lt, not, if◌then◌else◌, length, map, filter, fold, max, min}
use Rattle.std.specs.List.{range_with_len}
use Rattle.tlsf_heap.specs.Blocks.{Block, HeapState, size_of, words_in, is_free, bytes_of, stamps, want}
use Rattle.tlsf_heap.specs.GoodFit.{fits}
use Rattle.tlsf_heap.specs.declared.report.Report.{Report}

-- the live blocks
abbrev pub live_among : List Block → List Block
live_among blocks = filter (λ block. not (is_free block)) blocks

-- the free blocks
abbrev pub free_among : List Block → List Block
free_among blocks = filter is_free blocks

-- the payload bytes of some blocks
abbrev pub payload_in : List Block → ℕ
payload_in [] = 0
payload_in (block ∷ blocks) = length (bytes_of block) + payload_in blocks

-- the size of the greatest of some blocks, or 0 where there are none
abbrev pub largest_of : List Block → ℕ
largest_of blocks = fold max 0 (map size_of blocks)

-- whether a request of `len` bytes is not refused as NoFit: some free block may serve it
abbrev pub is_served : ℕ → List Block → ℕ → Bool
is_served sli blocks len = nat_lt 0 (length (fits sli (want len) blocks))

-- of the lengths below the bytes of all the blocks, the greatest that is served; 0 where none is
unfoldable pub grant_of : ℕ → List Block → ℕ
grant_of sli blocks = fold max 0 (filter (is_served sli blocks) (range_with_len 0 (8 * words_in blocks)))

-- the thousandths of these free words that lie outside the greatest free block; 0 where nothing is free
abbrev pub fragmentation_of : ℕ → ℕ → ℕ
fragmentation_of largest words = if words == 0 then 0 else 1000 - 1000 * largest / words

-- the least stamp of a free block, or the tick where nothing is free
abbrev pub oldest_of : ℕ → List Block → ℕ
oldest_of tick blocks = fold min tick (stamps blocks)

-- the report on a heap
abbrev pub report_of : ℕ → HeapState → Report
report_of sli h = record {
  live_blocks = length (live_among h.blocks);
  live_words = words_in (live_among h.blocks);
  live_bytes = payload_in (live_among h.blocks);
  free_blocks = length (free_among h.blocks);
  free_words = words_in (free_among h.blocks);
  largest = largest_of (free_among h.blocks);
  grant = grant_of sli h.blocks;
  fragmentation = fragmentation_of (largest_of (free_among h.blocks)) (words_in (free_among h.blocks));
  waste = 8 * words_in (live_among h.blocks) - payload_in (live_among h.blocks);
  age = h.tick - oldest_of h.tick h.blocks;
}

-- a number of bytes for which, and for no greater one, a request is not refused as NoFit; 0 where nothing is free
pub record IsGrant (sli : ℕ) (blocks : List Block) (grant : ℕ) : Type 0 where
  pub none : free_among blocks ≡ [] → grant ≡ 0
  pub served : ¬ (free_among blocks ≡ []) → ¬ (fits sli (want grant) blocks ≡ [])
  pub greatest : (len : ℕ) → ¬ (fits sli (want len) blocks ≡ []) → len ≤ grant
