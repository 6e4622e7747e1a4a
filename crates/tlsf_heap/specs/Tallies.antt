-- The sums that a report is made of.
use Rattle.std.specs.Prelude.{◌≡◌, ℕ, ◌*◌, ◌-◌, ◌≤◌, List, ◌==◌, if◌then◌else◌, length, take}
use Rattle.tlsf_class.specs.Classes.{low, class_of}
use Rattle.tlsf_heap.specs.Blocks.{Block, words_in}
use Rattle.tlsf_heap.specs.Reports.{live_among, free_among, payload_in, largest_of, fragmentation_of, oldest_of}
use Rattle.tlsf_heap.specs.declared.report.Report.{Report}
use Rattle.tlsf_heap.specs.declared.tally.Tally.{Tally}

-- the sums over some blocks of a heap at a tick
abbrev pub tally_of : ℕ → List Block → Tally
tally_of tick blocks = record {
  live_blocks = length (live_among blocks);
  live_words = words_in (live_among blocks);
  live_bytes = payload_in (live_among blocks);
  free_blocks = length (free_among blocks);
  free_words = words_in (free_among blocks);
  largest = largest_of (free_among blocks);
  oldest = oldest_of tick blocks;
}

-- the sums are those over the blocks before a place
pub record IsTallyUpTo (tick : ℕ) (blocks : List Block) (at : ℕ) (tally : Tally) : Type 0 where
  pub index : ℕ
  pub within : index ≤ length blocks
  pub place : words_in (take index blocks) ≡ at
  pub sums : tally ≡ tally_of tick (take index blocks)

-- the greatest length in bytes that is served where the greatest free block has this many words. It is the payload of the least
-- block of its class
abbrev pub granted : ℕ → ℕ → ℕ
granted sli largest = if largest == 0 then 0 else 8 * (low sli (class_of sli largest) - 3)

-- the report that sums make at a tick
abbrev pub told : ℕ → Tally → ℕ → Report
told sli tally tick = record {
  live_blocks = tally.live_blocks;
  live_words = tally.live_words;
  live_bytes = tally.live_bytes;
  free_blocks = tally.free_blocks;
  free_words = tally.free_words;
  largest = tally.largest;
  grant = granted sli tally.largest;
  fragmentation = fragmentation_of tally.largest tally.free_words;
  waste = 8 * tally.live_words - tally.live_bytes;
  age = tick - tally.oldest;
}
