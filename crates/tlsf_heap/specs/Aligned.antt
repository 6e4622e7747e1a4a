-- Calls that give the free block which begins at a place, or a block whose payload begins at a multiple of some words.
use Rattle.std.specs.Prelude.{◌≡◌, ℕ, ◌+◌, ◌-◌, ◌%◌, ◌≤◌, ◌<◌, ◌↔◌, ◌==◌, ◌&&◌, List, [], IsOk, IsErrOf, Option, Some, None, Bool, Result, Ok, Err, true, nat_le, nat_lt, if◌then◌else◌, find, MatchOption, ◌++◌}
use Rattle.tlsf_heap.specs.Blocks.{Block, HeapState, size_of, is_free, StandsAt}
use Rattle.tlsf_heap.specs.Calls.{Outcome, refused, is_worn, ticked, carved, last_tick, allocated_words, resized_words, released}
use Rattle.tlsf_heap.specs.GoodFit.{Site, sites, block_at, site_at, place_of, fits}
use Rattle.tlsf_heap.specs.Regions.{IsTagOf}
use Rattle.tlsf_heap.specs.WordsInUse.{words_in_use, words_at}
use Rattle.tlsf_words.specs.declared.tag.Tag.{Tag}
use Rattle.tlsf_heap.specs.declared.name.Name.{Name}
use Rattle.tlsf_heap.specs.declared.refusal.Refusal.{Refusal}
use Rattle.tlsf_heap.specs.declared.refusal.Refusal.TheVariants.{Stale, NoRoom, Worn, NoFit}

-- block i is free and begins at this place
pub record IsFreeAt (blocks : List Block) (at i : ℕ) : Type 0 where
  pub stands : StandsAt blocks at i
  pub free : is_free (block_at blocks i) ≡ true

-- a free block begins at this place
abbrev pub HasFreeAt : List Block → ℕ → Type 0
HasFreeAt blocks at = (i : ℕ) × IsFreeAt blocks at i

-- one of at least n words does
abbrev pub HasRoomAt : List Block → ℕ → ℕ → Type 0
HasRoomAt blocks at n = (i : ℕ) × IsFreeAt blocks at i × (n ≤ size_of (block_at blocks i))

-- the answer to a search for the free block that begins at a place, in a region of this many words: its tag
abbrev pub IsFreeTest : ℕ → ℕ → List Block → Option Tag → Type 0
IsFreeTest at words blocks found = MatchOption found (¬ (HasFreeAt blocks at)) (λ tag. (i : ℕ) × IsFreeAt blocks at i × IsTagOf words (site_at blocks i) tag)

-- whether a block is free and begins at this place
abbrev pub is_free_at : ℕ → Site → Bool
is_free_at at s = is_free s.block && place_of s == at

abbrev pub given_from : HeapState → ℕ → Option Site → Outcome Name
given_from h n None = refused h Stale
given_from h n (Some s) = if nat_lt (size_of s.block) n then refused h NoRoom else (if is_worn h then refused h Worn else record {
  answer = Ok (record { heap = h.id; at = place_of s; serial = h.tick });
  heap = ticked h (s.before ++ carved (size_of s.block) n h.tick 0 ++ s.after);
})

-- a request of n words without payload, served by the free block that begins at this place
abbrev pub words_from : HeapState → ℕ → ℕ → Outcome Name
words_from h at n = given_from h n (find (is_free_at at) (sites h.blocks))

-- when that is Stale, when it is NoRoom, and when it is a name
pub record AnswersFrom (h : HeapState) (at n : ℕ) (answer : Result Name Refusal) : Type 0 where
  pub stale : IsErrOf answer Stale ↔ ¬ (HasFreeAt h.blocks at)
  pub no_room : IsErrOf answer NoRoom ↔ (HasFreeAt h.blocks at × ¬ (HasRoomAt h.blocks at n))
  pub ok : IsOk answer ↔ (HasRoomAt h.blocks at n × ¬ (h.tick ≡ last_tick))

-- ---- a payload at a multiple of some words

-- the words by which the payload of a block at a place has to move on. It then begins `skew` words before a multiple of `step`.
-- They are none, or at least four, since no block is smaller
abbrev pub gap_of : ℕ → ℕ → ℕ → ℕ
gap_of at step skew = if (at + 3 + skew) % step == 0 then 0 else 4 + (step - (at + 7 + skew) % step) % step

-- So the gap is the least: such a number of words aligns the payload, and no smaller one does
pub record IsLeastGap (at step skew gap : ℕ) : Type 0 where
  pub block : 0 < gap → 4 ≤ gap
  pub aligned : (at + gap + 3 + skew) % step ≡ 0
  pub few : gap ≤ step + 3
  pub least : (k : ℕ) → (0 < k → 4 ≤ k) → (at + k + 3 + skew) % step ≡ 0 → gap ≤ k

-- the block of a name has n words after the first `gap`. It becomes one of n words that begins there, and the words before it are
-- released
abbrev pub moved_by : HeapState → Name → ℕ → ℕ → Outcome Name
moved_by h name gap n = let given = words_from (resized_words h name gap 0).heap (name.at + gap) n in record { answer = given.answer; heap = (released given.heap name).heap }

-- the block of a name becomes one of n words, and one that begins `gap` words further on
abbrev pub moved_on : HeapState → Name → ℕ → ℕ → Outcome Name
moved_on h name gap n = if gap == 0 then record { answer = Ok name; heap = (resized_words h name n 0).heap } else moved_by h name gap n

-- what follows a request that gave this name, or none; h is the heap before it
abbrev pub aligned_by : HeapState → ℕ → ℕ → ℕ → Result Name Refusal → HeapState → Outcome Name
aligned_by h n step skew (Err why) given = refused h why
aligned_by h n step skew (Ok name) given = moved_on given name (gap_of name.at step skew) n

-- the words that are asked for, so that n of them lie behind any gap: an even number where n and the step are even
abbrev pub aligned_words : ℕ → ℕ → ℕ
aligned_words n step = n + 4 + step

-- a request of n words without payload, whose payload would begin `skew` words before a multiple of `step`: four changes at most
abbrev pub words_aligned : ℕ → HeapState → ℕ → ℕ → ℕ → Outcome Name
words_aligned sli h n step skew = let given = allocated_words sli h (aligned_words n step) 0 in
    if nat_le last_tick (h.tick + 3) then refused h Worn else aligned_by h n step skew given.answer given.heap

-- when that is Worn, when it is NoFit, and when it is a name
pub record AnswersAligned (sli : ℕ) (h : HeapState) (n step : ℕ) (answer : Result Name Refusal) : Type 0 where
  pub worn : IsErrOf answer Worn ↔ (last_tick ≤ h.tick + 3)
  pub no_fit : h.tick + 3 < last_tick → (IsErrOf answer NoFit ↔ (fits sli (aligned_words n step) h.blocks ≡ []))
  pub ok : IsOk answer ↔ ((h.tick + 3 < last_tick) × ¬ (fits sli (aligned_words n step) h.blocks ≡ []))

-- what a caller gets who wants n words: a block whose payload begins `skew` words before a multiple of `step`. It has these words, and
-- three more at most. No other word came into use: the rest of what was asked for is free
pub record GetsAligned (old new : HeapState) (n step skew : ℕ) (name : Name) : Type 0 where
  pub aligned : (name.at + 3 + skew) % step ≡ 0
  pub room : n ≤ words_at new name.at
  pub few : words_at new name.at ≤ n + 3
  pub rest : words_in_use new ≡ words_in_use old + words_at new name.at
