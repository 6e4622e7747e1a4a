-- The writes of the private functions of free lists. No public clause cites this file.
use Rattle.std.specs.Prelude.{◌≡◌, ◌≢◌, ℕ, ◌+◌, List, slice_index}
use Rattle.tlsf_words.specs.Fields.{links_word, low_half, high_half}
use Rattle.tlsf_words.specs.Lists.{nowhere}

-- these two places name each other, where they are places, and no other word has changed
pub record AreTied (old new : List ℕ) (next previous : ℕ) : Type 0 where
  pub before : previous ≢ nowhere → slice_index new (previous + 2) ≡ links_word next (high_half (slice_index old (previous + 2)))
  pub behind : next ≢ nowhere → slice_index new (next + 2) ≡ links_word (low_half (slice_index old (next + 2))) previous
  pub others : (k : ℕ) → (previous ≢ nowhere → k ≢ previous + 2) → (next ≢ nowhere → k ≢ next + 2) → slice_index new k ≡ slice_index old k
