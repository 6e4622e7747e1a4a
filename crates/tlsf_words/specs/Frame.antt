-- A region's words after a call, and which of them it touched. A record's fields are the facts that callers cite.
use Rattle.std.specs.Prelude.{◌≡◌, ℕ, ◌+◌, ◌*◌, ◌<◌, ◌≤◌, ◌^◌, List, ◌∷◌, ◌++◌, Bool, length, slice_index}
use Rattle.tlsf_words.specs.Bytes.{byte_in}
use Rattle.tlsf_words.specs.Memory.{Memory}
use Rattle.tlsf_words.specs.Touched.{times}

-- the word at a place is read, which is one touch, and nothing changes. There are at most 2^24 words, which a caller's proof can't read
-- off the private fields
pub record Reads (at : ℕ) (old new : Memory) : Type 0 where
  pub small : length old.words ≤ 2 ^ 24
  pub words : new.words ≡ old.words
  pub starts : new.starts ≡ old.starts
  pub stays : new.extents ≡ old.extents
  pub touches : new.touches ≡ old.touches + 1
  pub touched : new.touched ≡ at ∷ old.touched

-- these places are touched, the last one first, and these are the words now. Start bits and memory stay
pub record Writes (places written : List ℕ) (old new : Memory) : Type 0 where
  pub small : length old.words ≤ 2 ^ 24
  pub words : new.words ≡ written
  pub starts : new.starts ≡ old.starts
  pub stays : new.extents ≡ old.extents
  pub touches : new.touches ≡ old.touches + length places
  pub touched : new.touched ≡ places ++ old.touched

-- n touches of start bits are made, and these are the start bits now. No word is touched, and the memory stays
pub record TouchesStarts (n : ℕ) (left : List Bool) (old new : Memory) : Type 0 where
  pub words : new.words ≡ old.words
  pub starts : new.starts ≡ left
  pub stays : new.extents ≡ old.extents
  pub touches : new.touches ≡ old.touches + n
  pub touched : new.touched ≡ old.touched

-- bytes `first` to `past - 1` may change. Each other byte stays, and each word that has none of them. Start bits and memory stay
pub record Changes (first past : ℕ) (old new : Memory) : Type 0 where
  pub before : (k : ℕ) → k < first → byte_in new.words k ≡ byte_in old.words k
  pub behind : (k : ℕ) → past ≤ k → byte_in new.words k ≡ byte_in old.words k
  pub words_before : (k : ℕ) → 8 * k + 8 ≤ first → slice_index new.words k ≡ slice_index old.words k
  pub words_behind : (k : ℕ) → past ≤ 8 * k → slice_index new.words k ≡ slice_index old.words k
  pub length : length new.words ≡ length old.words
  pub starts : new.starts ≡ old.starts
  pub stays : new.extents ≡ old.extents

-- they are written, with at most this many touches, and no word is touched that has none of them
pub record WritesBytes (most first past : ℕ) (old new : Memory) : Type 0 where
  pub changes : Changes first past old new
  pub touches : new.touches ≤ old.touches + most
  pub touched_before : (k : ℕ) → 8 * k + 8 ≤ first → times new.touched k ≡ times old.touched k
  pub touched_behind : (k : ℕ) → past ≤ 8 * k → times new.touched k ≡ times old.touched k
  pub rise : old.touches ≤ new.touches

-- bytes `first` to `past - 1` are read, with at most this many touches. Nothing changes, and no word is touched that has none of them
pub record ReadsBytes (most first past : ℕ) (old new : Memory) : Type 0 where
  pub words : new.words ≡ old.words
  pub starts : new.starts ≡ old.starts
  pub stays : new.extents ≡ old.extents
  pub touches : new.touches ≤ old.touches + most
  pub touched_before : (k : ℕ) → 8 * k + 8 ≤ first → times new.touched k ≡ times old.touched k
  pub touched_behind : (k : ℕ) → past ≤ 8 * k → times new.touched k ≡ times old.touched k
  pub rise : old.touches ≤ new.touches
