-- The view of a heap.
use Rattle.std.specs.Prelude.{ℕ, List}
use Rattle.tlsf_words.specs.Memory.{Extents}
use Rattle.tlsf_heap.specs.Blocks.{HeapState}
use Rattle.tlsf_heap.specs.Image.{Image}

-- the sequential heap, the words that are stored in its region, the classes whose bits are set, and the memory that it has. Also
-- the most words that were ever in use, and its touches. These are reads and writes of a stored word, a start bit, a head of a list
-- or a word of the bitmaps
pub record Shown : Type 0 where
  pub heap : HeapState
  pub stored : Image
  pub marked : List ℕ
  pub extents : Extents
  pub most_in_use : ℕ
  pub touches : ℕ
  pub touched : List ℕ

-- of that what every layer shows: the heap, its touches, and the words that they touched
pub record Seen : Type 0 where
  pub heap : HeapState
  pub touches : ℕ
  pub touched : List ℕ

abbrev pub seen : Shown → Seen
seen s = record { heap = s.heap; touches = s.touches; touched = s.touched }
