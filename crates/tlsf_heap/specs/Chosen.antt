-- The answer to a search for the block that serves a request.
use Rattle.std.specs.Prelude.{◌≡◌, ℕ, ◌<◌, List, Option, Some, true, false, length, slice_get, MatchOption}
use Rattle.tlsf_class.specs.Classes.{class_of}
use Rattle.tlsf_heap.specs.Blocks.{Block, size_of, StandsAt}
use Rattle.tlsf_heap.specs.GoodFit.{is_fit, is_as_good, block_at}

-- no block may serve a request of n words
abbrev pub NoneFits : ℕ → ℕ → List Block → Type 0
NoneFits sli n blocks = (i : ℕ) → i < length blocks → is_fit sli n (block_at blocks i) ≡ false

-- the block at i may serve the request, and no other that may is better
pub record IsChoice (sli n : ℕ) (blocks : List Block) (i : ℕ) : Type 0 where
  pub within : i < length blocks
  pub fit : is_fit sli n (block_at blocks i) ≡ true
  pub best : (j : ℕ) → j < length blocks → is_fit sli n (block_at blocks j) ≡ true → is_as_good sli (block_at blocks i) (block_at blocks j) ≡ true

-- the block at i begins at the place that is the head of the list of a class, and is of that class
pub record IsHead (sli : ℕ) (blocks : List Block) (lists : ℕ → List ℕ) (class at i : ℕ) : Type 0 where
  pub first : slice_get (lists class) 0 ≡ Some at
  pub stands : StandsAt blocks at i
  pub classed : class ≡ class_of sli (size_of (block_at blocks i))

-- what a search for the class of the block that serves the request answers: the block is the head of the list of the class
abbrev pub IsBestClass : ℕ → ℕ → List Block → (ℕ → List ℕ) → Option ℕ → Type 0
IsBestClass sli n blocks lists found =
    MatchOption found (NoneFits sli n blocks) (λ class. (at : ℕ) × (i : ℕ) × IsHead sli blocks lists class at i × IsChoice sli n blocks i)
