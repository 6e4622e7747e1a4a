-- Headers, as the words of a region have them, and what the writes of one leave.
use Rattle.std.specs.Prelude.{◌≡◌, ℕ, ◌+◌, ◌-◌, ◌<◌, ◌≤◌, ◌==◌, List, Bool, true, false, if◌then◌else◌, length, slice_index, slice_set}
use Rattle.tlsf_words.specs.Fields.{tag_word, length_word, size_in, last_in, free_in}
use Rattle.tlsf_words.specs.declared.tag.Tag.{Tag}
use Rattle.tlsf_heap.specs.Image.{Image}

-- the first word of a header with another place before
unfoldable pub with_back : ℕ → ℕ → ℕ
with_back word back = tag_word (size_in word) (last_in word) (free_in word) back

-- the start map once a block of this many words and the one that begins at this place are one. Where there is none, it is as it was
unfoldable pub without_start : List Bool → ℕ → ℕ → List Bool
without_start starts at size = if size == 0 then starts else slice_set starts at false

-- the tag of what is left behind the first n words of the block of a tag at a place
pub record IsRest (tag : Tag) (at n : ℕ) (rest : Tag) : Type 0 where
  pub size : rest.size ≡ tag.size - n
  pub free : rest.free ≡ tag.free
  pub last : rest.last ≡ tag.last
  pub back : rest.back ≡ at

-- ---- a header at a place

-- that of a free block
pub record HasFree (words : List ℕ) (at size : ℕ) (last : Bool) (back stamp : ℕ) : Type 0 where
  pub tag : slice_index words at ≡ tag_word size last true back
  pub mark : slice_index words (at + 1) ≡ stamp

-- that of a live block with `len` bytes of payload
pub record HasLive (words : List ℕ) (at size : ℕ) (last : Bool) (back serial len : ℕ) : Type 0 where
  pub tag : slice_index words at ≡ tag_word size last false back
  pub mark : slice_index words (at + 1) ≡ serial
  pub bytes : slice_index words (at + 2) ≡ length_word len

-- the header at a place names this one before it, unless the region ends there
abbrev pub NamesBefore : List ℕ → List ℕ → ℕ → ℕ → Type 0
NamesBefore old new at back = at < length old → slice_index new at ≡ with_back (slice_index old at) back

-- ---- what a write leaves

-- no word has changed but those from a place up to an end
pub record OnlyFrom (old new : List ℕ) (from end : ℕ) : Type 0 where
  pub before : (k : ℕ) → k < from → slice_index new k ≡ slice_index old k
  pub behind : (k : ℕ) → end ≤ k → slice_index new k ≡ slice_index old k
  pub length : length new ≡ length old

-- touches rise by `most` at most
pub record RisesBy (old new most : ℕ) : Type 0 where
  pub within : new ≤ old + most
  pub rise : old ≤ new

-- the block of this tag at a place becomes a live one, whole
pub record Wholes (old new : Image) (at : ℕ) (tag : Tag) (serial len : ℕ) : Type 0 where
  pub live : HasLive new.words at tag.size tag.last tag.back serial len
  pub only : OnlyFrom old.words new.words at (at + tag.size)
  pub starts : new.starts ≡ old.starts

-- it becomes a live one of `size` words and a free rest
pub record Splits (old new : Image) (at : ℕ) (tag : Tag) (size serial len : ℕ) : Type 0 where
  pub live : HasLive new.words at size false tag.back serial len
  pub rest : HasFree new.words (at + size) (tag.size - size) tag.last at serial
  pub next : NamesBefore old.words new.words (at + tag.size) (at + size)
  pub only : OnlyFrom old.words new.words at (at + tag.size + 1)
  pub starts : new.starts ≡ slice_set old.starts (at + size) true

-- the block at a place, the `before` free words before it and the `after` ones behind it become one free block of this tag
pub record Merges (old new : Image) (at before after : ℕ) (tag : Tag) (stamp : ℕ) : Type 0 where
  pub free : HasFree new.words (at - before) tag.size tag.last tag.back stamp
  pub next : NamesBefore old.words new.words (at - before + tag.size) (at - before)
  pub links : slice_index new.words (at - before + 2) ≡ slice_index old.words (at - before + 2)
  pub only : OnlyFrom old.words new.words (at - before) (at - before + tag.size + 1)
  pub starts : new.starts ≡ without_start (without_start old.starts at before) (at - before + tag.size - after) after

-- a live block and the `after` free words behind it become a live block of this tag
pub record Widens (old new : Image) (at : ℕ) (tag : Tag) (after : ℕ) : Type 0 where
  pub header : slice_index new.words at ≡ tag_word tag.size tag.last false tag.back
  pub next : NamesBefore old.words new.words (at + tag.size) at
  pub kept : (k : ℕ) → at < k → k < at + tag.size → slice_index new.words k ≡ slice_index old.words k
  pub only : OnlyFrom old.words new.words at (at + tag.size + 1)
  pub starts : new.starts ≡ without_start old.starts (at + tag.size - after) after

-- or one of `size` words and a free rest
pub record Recuts (old new : Image) (at : ℕ) (tag : Tag) (after size stamp : ℕ) : Type 0 where
  pub header : slice_index new.words at ≡ tag_word size false false tag.back
  pub rest : HasFree new.words (at + size) (tag.size - size) tag.last at stamp
  pub next : NamesBefore old.words new.words (at + tag.size) (at + size)
  pub kept : (k : ℕ) → at < k → k < at + size → slice_index new.words k ≡ slice_index old.words k
  pub only : OnlyFrom old.words new.words at (at + tag.size + 1)
  pub starts : new.starts ≡ slice_set (without_start old.starts (at + tag.size - after) after) (at + size) true
