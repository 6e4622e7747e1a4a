-- The findings of a check of blocks in words that may hold anything.
use Rattle.std.specs.Prelude.{◌≡◌, ◌≢◌, ℕ, zero, suc, ◌+◌, ◌<◌, ◌≤◌, ◌==◌, nat_lt, if◌then◌else◌, Bool, true, false, List, length, take, slice_index, slice_index_or, Option, MatchOption}
use Rattle.tlsf_words.specs.Fields.{size_in, last_in, free_in, back_in, low_half, high_half}
use Rattle.tlsf_words.specs.Lists.{nowhere}
use Rattle.tlsf_words.specs.Memory.{Memory}
use Rattle.tlsf_words.specs.Touched.{times}
use Rattle.tlsf_heap.specs.Blocks.{Block, words_in, words_for, StandsAt}
use Rattle.tlsf_heap.specs.Image.{Image}
use Rattle.tlsf_heap.specs.declared.checked.Checked.{Checked}
use Rattle.tlsf_heap.specs.declared.checked.Checked.TheVariants.{Sound, Damaged}

-- ---- one block

-- where the block at a place ends, as its tag says
abbrev pub end_at : Image → ℕ → ℕ
end_at m at = at + size_in (slice_index m.words at)

-- a block begins at a place: the region has four words from there on, and the start bit is set
pub record Begins (m : Image) (at : ℕ) : Type 0 where
  pub room : at + 4 ≤ length m.words
  pub start : slice_index_or m.starts at false ≡ true

-- a free block begins there
pub record BeginsFree (m : Image) (at : ℕ) : Type 0 where
  pub begins : Begins m at
  pub free : free_in (slice_index m.words at) ≡ true

-- the place of the block before one: none at place 0, and else that of a block which ends where this one begins
pub record JoinsBefore (m : Image) (at back : ℕ) : Type 0 where
  pub first : at ≡ 0 → back ≡ nowhere
  pub other : 0 < at → Begins m back × (end_at m back ≡ at)

-- behind a block that ends at a place, and is free or not, begins one that names it; not both are free
pub record JoinsBehind (m : Image) (at end : ℕ) (free : Bool) : Type 0 where
  pub begins : Begins m end
  pub names : back_in (slice_index m.words end) ≡ at
  pub apart : free ≡ true → free_in (slice_index m.words end) ≡ false

-- the next place of a list: none, or that of a free block which names this one as the previous
abbrev pub NextLeadsBack : Image → ℕ → ℕ → Type 0
NextLeadsBack m at next = next ≢ nowhere → BeginsFree m next × (high_half (slice_index m.words (next + 2)) ≡ at)

-- the previous place: none, or that of a free block which names this one as the next
abbrev pub PreviousLeadsBack : Image → ℕ → ℕ → Type 0
PreviousLeadsBack m at previous = previous ≢ nowhere → BeginsFree m previous × (low_half (slice_index m.words (previous + 2)) ≡ at)

-- the links of a free block lead to free ones and back
pub record LeadsBack (m : Image) (at : ℕ) : Type 0 where
  pub next : NextLeadsBack m at (low_half (slice_index m.words (at + 2)))
  pub previous : PreviousLeadsBack m at (high_half (slice_index m.words (at + 2)))

-- a block begins at this place, its size is one that it may have, and it agrees with its neighbours. A live one has room for its
-- payload, and the links of a free one lead back
pub record IsSound (m : Image) (at : ℕ) : Type 0 where
  pub begins : Begins m at
  pub least : 4 ≤ size_in (slice_index m.words at)
  pub ends : end_at m at ≤ length m.words
  pub last : last_in (slice_index m.words at) ≡ (end_at m at == length m.words)
  pub before : JoinsBefore m at (back_in (slice_index m.words at))
  pub behind : end_at m at < length m.words → JoinsBehind m at (end_at m at) (free_in (slice_index m.words at))
  pub live : free_in (slice_index m.words at) ≡ false → words_for (slice_index m.words (at + 2)) ≤ size_in (slice_index m.words at)
  pub free : free_in (slice_index m.words at) ≡ true → LeadsBack m at

-- the most touches of a look at one block. They are 2 for its start bit and its tag, and 4 for those of both neighbours. A free one
-- has 7 more for its links and for both blocks that they name
abbrev pub block_touches : ℕ
block_touches = 13

-- ---- some blocks

-- this many blocks are sound, one after the other; the first begins at a place, and the last ends at another place
abbrev pub AreSound : Image → ℕ → ℕ → ℕ → Type 0
AreSound m zero from end = from ≡ end
AreSound m (suc count) from end = IsSound m from × AreSound m count (end_at m from) end

-- `most` blocks are sound from a place on, or fewer up to the region's end. `next` is the place after them, and 0 at the region's
-- end
pub record GoSound (m : Image) (from most next : ℕ) : Type 0 where
  pub count : ℕ
  pub end : ℕ
  pub sound : AreSound m count from end
  pub within : count ≤ most
  pub whole : count < most → end ≡ length m.words
  pub next_is : next ≡ (if end == length m.words then 0 else end)

-- fewer than `most` blocks are sound from a place on, and before the region's end comes one that is not
pub record MeetDamage (m : Image) (from most at : ℕ) : Type 0 where
  pub count : ℕ
  pub sound : AreSound m count from at
  pub within : count < most
  pub inside : at < length m.words
  pub damaged : ¬ (IsSound m at)

-- what a look at `most` blocks at most from a place on tells
abbrev pub Tells : Image → ℕ → ℕ → Checked → Type 0
Tells m from most (Sound next) = GoSound m from most next
Tells m from most (Damaged at) = MeetDamage m from most at

-- what a check from a place on answers: it tells of blocks where one begins there, and of none elsewhere
abbrev pub IsCheck : Image → ℕ → ℕ → Option Checked → Type 0
IsCheck m from most answer = MatchOption answer (¬ (Begins m from)) (λ checked. Begins m from × Tells m from most checked)

-- a look leaves the words, the start bits and the memory of both as they are, and touches rise by `most` at most
pub record OnlyLooks (old new : Memory) (most : ℕ) : Type 0 where
  pub words : new.words ≡ old.words
  pub starts : new.starts ≡ old.starts
  pub stays : new.extents ≡ old.extents
  pub touches : new.touches ≤ old.touches + most
  pub rise : old.touches ≤ new.touches

-- word k is one of the three of the header of a block, as the start bits say
pub record IsHeaderWord (m : Image) (k : ℕ) : Type 0 where
  pub at : ℕ
  pub begins : Begins m at
  pub behind : at ≤ k
  pub within : k < at + 3

-- no word was read or written but those of headers
abbrev pub OnlyHeaders : Image → List ℕ → List ℕ → Type 0
OnlyHeaders m old new = (k : ℕ) → ¬ (IsHeaderWord m k) → times new k ≡ times old k

-- ---- the blocks of a heap

-- the place of block i, and 0 behind the last
abbrev pub place_or_first : List Block → ℕ → ℕ
place_or_first blocks i = if nat_lt i (length blocks) then words_in (take i blocks) else 0

-- a check from the place of a block finds `most` blocks sound, or all up to the last, and names the place behind them
pub record FindsSound (blocks : List Block) (from most : ℕ) (checked : Checked) : Type 0 where
  pub index : ℕ
  pub stands : StandsAt blocks from index
  pub told : checked ≡ Sound (place_or_first blocks (index + most))
