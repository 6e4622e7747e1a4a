-- Blocks of a fixed size: each request takes the same number of words, whatever its length.
use Rattle.std.specs.Prelude.{◌≡◌, ◌≢◌, ℕ, ◌+◌, ◌*◌, ◌<◌, ◌≤◌, List, [], ◌∷◌, Err, false, length, max, replicate, ⊤}
use Rattle.std.specs.List.{AllByRecursion}
use Rattle.tlsf_class.specs.Classes.{most_words}
use Rattle.tlsf_heap.specs.Blocks.{Block, HeapState, is_free, size_of, want}
use Rattle.tlsf_heap.specs.Lawful.{IsLawful, IsRegion}
use Rattle.tlsf_heap.specs.Calls.{Call, Allocate, Release, Write, Resize, Read, Answer, Allocated, Resized, allocated_words, released, resized_words, written, answered, opened, run, last_tick}
use Rattle.tlsf_heap.specs.declared.name.Name.{Name}
use Rattle.tlsf_heap.specs.declared.refusal.Refusal.TheVariants.{NoFit}
use Rattle.tlsf_pool.specs.declared.kind.Kind.{Kind}
use Rattle.tlsf_pool.specs.laws.Room.{live_count, sure}
use Rattle.tlsf_pool.specs.laws.MixedSizes.{AreModest, HasRoomFor, IsServed, mixed_words}
use Rattle.tlsf_pool.specs.laws.Kinds.{count_in, kinds_words, used, HasClass}
use Rattle.tlsf_pool.specs.laws.OneLarge.{longest_of}

-- ---- a heap of such blocks

-- a multiple of s
abbrev pub IsMultiple : ℕ → ℕ → Type 0
IsMultiple s n = (k : ℕ) × (n ≡ k * s)

-- each block begins at a multiple of s words, the first one at `at`
abbrev pub BeginAtMultiples : ℕ → ℕ → List Block → Type 0
BeginAtMultiples s at [] = ⊤
BeginAtMultiples s at (block ∷ blocks) = IsMultiple s at × BeginAtMultiples s (at + size_of block) blocks

-- a live block has s words, or up to three more, which are too few for a block
abbrev pub IsFixedSize : ℕ → Block → Type 0
IsFixedSize s block = is_free block ≡ false → (s ≤ size_of block) × (size_of block ≤ s + 3)

pub record HasFixedSize (s : ℕ) (h : HeapState) : Type 0 where
  pub sizes : AllByRecursion (IsFixedSize s) h.blocks
  pub places : BeginAtMultiples s 0 h.blocks

-- the least size of a search class is in that class itself. So a free block of just these words serves a request of that many
abbrev pub SureIsSure : ℕ → Type 0
SureIsSure sli = (n : ℕ) → n ≤ most_words sli → sure sli (sure sli n) ≡ sure sli n

-- each new heap has a fixed size, whatever its words
abbrev pub NewHasFixedSize : Type 0
NewHasFixedSize = (s id words first : ℕ) → HasFixedSize s (opened id words first)

-- it keeps it where each request takes s words, whatever its length
pub record KeepsFixedSize (sli s : ℕ) (h : HeapState) : Type 0 where
  pub allocate : (len : ℕ) → HasFixedSize s (allocated_words sli h s len).heap
  pub release : (name : Name) → HasFixedSize s (released h name).heap
  pub write : (name : Name) (at : ℕ) (bytes : List ℕ) → HasFixedSize s (written h name at bytes).heap
  pub resize : (name : Name) (len : ℕ) → HasFixedSize s (resized_words h name s len).heap

abbrev pub FixedSizeIsKept : ℕ → Type 0
FixedSizeIsKept sli = (s : ℕ) (h : HeapState) → HasFixedSize s h → KeepsFixedSize sli s h

-- a request of s words finds room in most * s words where fewer than `most` blocks are live
abbrev pub FixedSizeFindsRoom : ℕ → Type 0
FixedSizeFindsRoom sli = (s most len : ℕ) (h : HeapState) → IsLawful h → HasFixedSize s h → sure sli s ≡ s → most * s ≤ h.words → live_count h < most
    → (allocated_words sli h s len).answer ≢ Err NoFit

-- and fewer words hold fewer blocks
abbrev pub FixedSizeIsTight : Type 0
FixedSizeIsTight = (s most : ℕ) (h : HeapState) → IsLawful h → HasFixedSize s h → h.words < most * s → live_count h < most

-- where the region is a multiple of s, a live block has just s words, and a free one a multiple of s
abbrev pub IsWhole : ℕ → Block → Type 0
IsWhole s block = (is_free block ≡ false → size_of block ≡ s) × IsMultiple s (size_of block)

abbrev pub BlocksAreWhole : Type 0
BlocksAreWhole = (s : ℕ) (h : HeapState) → 4 ≤ s → IsLawful h → HasFixedSize s h → IsMultiple s h.words → AllByRecursion (IsWhole s) h.blocks

-- ---- runs

-- a call of which each request takes s words: the answer, and the heap that it leaves
abbrev pub answered_fixed : ℕ → ℕ → HeapState → Call → Answer × HeapState
answered_fixed sli s h (Allocate len) = (Allocated (allocated_words sli h s len).answer, (allocated_words sli h s len).heap)
answered_fixed sli s h (Release name) = answered sli h (Release name)
answered_fixed sli s h (Resize name len) = (Resized (resized_words h name s len).answer, (resized_words h name s len).heap)
answered_fixed sli s h (Write name at bytes) = answered sli h (Write name at bytes)
answered_fixed sli s h (Read name at n) = answered sli h (Read name at n)

-- and such calls in turn
abbrev pub run_fixed : ℕ → ℕ → HeapState → List Call → List Answer × HeapState
run_fixed sli s h [] = ([], h)
run_fixed sli s h (call ∷ calls) = let step = answered_fixed sli s h call in let rest = run_fixed sli s step.1 calls in (step.0 ∷ rest.0, rest.1)

-- the words of a region that has room for `most` live blocks, each of the words from which every free block serves `len` bytes
abbrev pub fixed_words : ℕ → ℕ → ℕ → ℕ
fixed_words sli most len = max 4 (most * sure sli (want len))

-- the words of each block where a table has several kinds: those of the longest of which one is held
abbrev pub fixed_size : ℕ → List Kind → ℕ
fixed_size sli kinds = sure sli (want (longest_of (used kinds)))

-- and of a region with room for as many such blocks as the table has
abbrev pub fixed_kinds_words : ℕ → List Kind → ℕ
fixed_kinds_words sli kinds = fixed_words sli (count_in kinds) (longest_of (used kinds))

-- a program that never holds more than `most` blocks, of at most `len` bytes each, is never answered NoFit in a region of fixed_words
abbrev pub FixedSizeSuffices : ℕ → Type 0
FixedSizeSuffices sli = (id words first most len : ℕ) (calls : List Call) → IsRegion sli words → want len ≤ most_words sli → fixed_words sli most len ≤ words
    → let answers = (run_fixed sli (sure sli (want len)) (opened id words first) calls).0 in AreModest most len 0 calls answers → AllByRecursion HasRoomFor answers

-- and each of its requests is served, while the ticks last
abbrev pub FixedSizeServes : ℕ → Type 0
FixedSizeServes sli = (id words first most len : ℕ) (calls : List Call) → IsRegion sli words → want len ≤ most_words sli → fixed_words sli most len ≤ words
    → let answers = (run_fixed sli (sure sli (want len)) (opened id words first) calls).0 in AreModest most len 0 calls answers → first + length calls < last_tick
    → AllByRecursion IsServed answers

-- in fewer words than `most` blocks have, not all of that many requests are served
abbrev pub FixedSizeIsExact : ℕ → Type 0
FixedSizeIsExact sli = (id words first most len : ℕ) → IsRegion sli words → want len ≤ most_words sli → words < most * sure sli (want len)
    → ¬ (AllByRecursion IsServed (run_fixed sli (sure sli (want len)) (opened id words first) (replicate most (Allocate len))).0)

-- a request, and a resize, is for a length that wants s words
abbrev pub WantsWords : ℕ → Call → Type 0
WantsWords s (Allocate n) = want n ≡ s
WantsWords s (Release name) = ⊤
WantsWords s (Write name at bytes) = ⊤
WantsWords s (Resize name n) = want n ≡ s
WantsWords s (Read name at n) = ⊤

-- the same for the calls of every heap, where each length wants just the words that are the least size of a class
abbrev pub OneLengthSuffices : ℕ → Type 0
OneLengthSuffices sli = (id words first most len : ℕ) (calls : List Call) → IsRegion sli words → sure sli (want len) ≡ want len → fixed_words sli most len ≤ words
    → AllByRecursion (WantsWords (want len)) calls → let answers = (run sli (opened id words first) calls).0 in AreModest most len 0 calls answers → AllByRecursion HasRoomFor answers

-- ---- sizes

-- some class has blocks for a request of this many bytes, and a region may have these words
abbrev pub HasFixedRegion : ℕ → ℕ → ℕ → Type 0
HasFixedRegion sli most len = (want len ≤ most_words sli) × IsRegion sli (fixed_words sli most len)

-- they are never more than those for mixed sizes
abbrev pub FewerThanMixedSizes : ℕ → Type 0
FewerThanMixedSizes sli = (most len : ℕ) → want len ≤ most_words sli → fixed_words sli most len ≤ mixed_words sli most len

-- nor, for as many blocks as a table has, of the longest kind, than those of the table
abbrev pub FewerThanATable : ℕ → Type 0
FewerThanATable sli = (kinds : List Kind) → AllByRecursion (HasClass sli) kinds → fixed_kinds_words sli kinds ≤ kinds_words sli kinds

-- at level 4, 6,800 words are room for 100 blocks of up to 512 bytes
abbrev pub HundredOfFixedSize : Type 0
HundredOfFixedSize = fixed_words 4 100 512 ≡ 6800
