-- How large a region must be for blocks of mixed sizes, so that a program is never refused for want of room.
use Rattle.std.specs.Prelude.{◌≡◌, ◌≢◌, ℕ, ◌+◌, ◌*◌, ◌-◌, ◌<◌, ◌≤◌, ◌↔◌, ◌&&◌, List, [], ◌∷◌, Option, Some, None, Ok, Err, false, length, max, nat_le, if◌then◌else◌, ⊤}
use Rattle.std.specs.List.{AllByRecursion}
use Rattle.tlsf_class.specs.Classes.{most_words}
use Rattle.tlsf_heap.specs.Blocks.{Block, is_free, size_of, want}
use Rattle.tlsf_heap.specs.Lawful.{IsRegion}
use Rattle.tlsf_heap.specs.Calls.{Call, Allocate, Release, Write, Resize, Read, Answer, Allocated, Released, Written, Resized, Got, allocated, opened, run, last_tick}
use Rattle.tlsf_heap.specs.declared.refusal.Refusal.TheVariants.{NoFit}
use Rattle.tlsf_pool.specs.laws.Room.{sure}
use Rattle.tlsf_pool.specs.laws.Held.{held_after}

-- the words of a region that has room for `most` live blocks of at most `len` bytes each, in whatever order they come and go. Up to 8 bytes
-- want four words, which no free block lacks, so none are lost to holes
abbrev pub mixed_words : ℕ → ℕ → ℕ → ℕ
mixed_words sli most len = max 4 (if nat_le len 8 then most * 4 else (most - 1) * (want len + 3) + most * (sure sli (want len) - 1) + 1)

-- some class has blocks for a request of this many bytes, and a region may have the words for mixed sizes
abbrev pub HasMixedRegion : ℕ → ℕ → ℕ → Type 0
HasMixedRegion sli most len = (want len ≤ most_words sli) × IsRegion sli (mixed_words sli most len)

-- the words of the region for mixed sizes; None where there is none
abbrev pub mixed_region : ℕ → ℕ → ℕ → Option ℕ
mixed_region sli most len =
    if nat_le (want len) (most_words sli) && nat_le (mixed_words sli most len) (most_words sli) then Some (mixed_words sli most len) else None

-- a request is for at most `len` bytes, by a program that holds fewer than `most` blocks. No block is resized to more than `len`
abbrev pub IsModest : ℕ → ℕ → ℕ → Call → Type 0
IsModest most len held (Allocate n) = (n ≤ len) × (held < most)
IsModest most len held (Release name) = ⊤
IsModest most len held (Write name at bytes) = ⊤
IsModest most len held (Resize name n) = n ≤ len
IsModest most len held (Read name at n) = ⊤

-- so is each request among these calls, which get these answers
abbrev pub AreModest : ℕ → ℕ → ℕ → List Call → List Answer → Type 0
AreModest most len held [] answers = ⊤
AreModest most len held (call ∷ calls) [] = ⊤
AreModest most len held (call ∷ calls) (answer ∷ answers) = IsModest most len held call × AreModest most len (held_after held call answer) calls answers

-- a live block has at most k words
abbrev pub IsSmall : ℕ → Block → Type 0
IsSmall k block = is_free block ≡ false → size_of block ≤ k

-- an answer isn't NoFit
abbrev pub HasRoomFor : Answer → Type 0
HasRoomFor answer = answer ≢ Allocated (Err NoFit)

-- a program that never holds more than `most` blocks, of at most `len` bytes each, is never answered NoFit in a region of mixed_words
abbrev pub MixedSizesSuffice : ℕ → Type 0
MixedSizesSuffice sli = (id words first most len : ℕ) (calls : List Call) → IsRegion sli words → want len ≤ most_words sli → mixed_words sli most len ≤ words
    → let answers = (run sli (opened id words first) calls).0 in AreModest most len 0 calls answers → AllByRecursion HasRoomFor answers

-- no request is refused
abbrev pub IsServed : Answer → Type 0
IsServed (Allocated (Ok name)) = ⊤
IsServed (Allocated (Err why)) = ⊥
IsServed (Released result) = ⊤
IsServed (Written result) = ⊤
IsServed (Resized result) = ⊤
IsServed (Got result) = ⊤

-- and each of its requests is served, while the ticks last
abbrev pub MixedSizesServe : ℕ → Type 0
MixedSizesServe sli = (id words first most len : ℕ) (calls : List Call) → IsRegion sli words → want len ≤ most_words sli → mixed_words sli most len ≤ words
    → let answers = (run sli (opened id words first) calls).0 in AreModest most len 0 calls answers → first + length calls < last_tick
    → AllByRecursion IsServed answers

-- the region has these words, and there is none just where no region may have that many
abbrev pub RegionHasMixedWords : ℕ → Type 0
RegionHasMixedWords sli = (most len words : ℕ) → (mixed_region sli most len ≡ Some words) ↔ (HasMixedRegion sli most len × (words ≡ mixed_words sli most len))

-- for one block no smaller region would do
abbrev pub OneBlockIsTight : ℕ → Type 0
OneBlockIsTight sli = (id words first len : ℕ) → want len ≤ most_words sli → words < mixed_words sli 1 len → (allocated sli (opened id words first) len).answer ≡ Err NoFit

-- at level 4, 13,631 words are room for 100 blocks of up to 512 bytes
abbrev pub HundredBlocks : Type 0
HundredBlocks = mixed_words 4 100 512 ≡ 13631
