-- How many free words are enough for a request, and how much of a region live blocks take.
use Rattle.std.specs.Prelude.{◌≡◌, ◌≢◌, ℕ, ◌+◌, ◌*◌, ◌-◌, ◌<◌, ◌≤◌, List, [], ◌∷◌, Err, length, ⊤}
use Rattle.std.specs.List.{AllByRecursion}
use Rattle.std.specs.Option.{option_map_or}
use Rattle.tlsf_class.specs.Classes.{most_words, low, search_of}
use Rattle.tlsf_heap.specs.Blocks.{Block, Live, Free, HeapState, words_in, want}
use Rattle.tlsf_heap.specs.GoodFit.{fits}
use Rattle.tlsf_heap.specs.Lawful.{IsLawful}
use Rattle.tlsf_heap.specs.Calls.{Call, allocated, opened, run}
use Rattle.tlsf_heap.specs.Reports.{live_among, free_among}
use Rattle.tlsf_heap.specs.declared.refusal.Refusal.TheVariants.{NoFit}

-- how many blocks are live
abbrev pub live_count : HeapState → ℕ
live_count h = length (live_among h.blocks)

-- the words that are free
abbrev pub free_words : HeapState → ℕ
free_words h = words_in (free_among h.blocks)

-- each free block of at least this many words serves a request of n words: the least size of its search class
abbrev pub sure : ℕ → ℕ → ℕ
sure sli n = option_map_or (low sli) (search_of sli n) 0

-- a request finds room where more words are free than fit into blocks too small for it. One such block stands before each live
-- block and one after the last
abbrev pub FindsRoom : ℕ → Type 0
FindsRoom sli = (h : HeapState) (len : ℕ) → IsLawful h → want len ≤ most_words sli → (live_count h + 1) * (sure sli (want len) - 1) < free_words h
    → ¬ (fits sli (want len) h.blocks ≡ [])

-- no fewer free words would do, however many blocks are live. Where a region may have the words, some calls on it leave just this
-- number free, and no room for such a request
abbrev pub RoomIsTight : ℕ → Type 0
RoomIsTight sli = (live len : ℕ) → want len ≤ most_words sli → 4 < sure sli (want len) → (live + 1) * (sure sli (want len) - 1) + live * 4 ≤ most_words sli
    → (calls : List Call) × (let h = (run sli (opened 0 ((live + 1) * (sure sli (want len) - 1) + live * 4) 0) calls).1 in
    (live_count h ≡ live) × (free_words h ≡ (live + 1) * (sure sli (want len) - 1)) × (fits sli (want len) h.blocks ≡ []))

-- a live block has at most three words more than were wanted
abbrev pub IsSnug : Block → Type 0
IsSnug (Live size serial bytes) = size ≤ want (length bytes) + 3
IsSnug (Free size stamp) = ⊤

-- after any calls on a new heap each live block is so: a rest of four words or more is split off
abbrev pub BlocksAreSnug : ℕ → Type 0
BlocksAreSnug sli = (id words first : ℕ) (calls : List Call) → 4 ≤ words → AllByRecursion IsSnug (run sli (opened id words first) calls).1.blocks

-- the words that were wanted for the live blocks
abbrev pub wanted_words : List Block → ℕ
wanted_words [] = 0
wanted_words (Live size serial bytes ∷ blocks) = want (length bytes) + wanted_words blocks
wanted_words (Free size stamp ∷ blocks) = wanted_words blocks

-- after any calls on a new heap, a request finds room by what the live blocks were asked for, and by how many they are
abbrev pub SumSuffices : ℕ → Type 0
SumSuffices sli = (id words first len : ℕ) (calls : List Call) → 4 ≤ words → want len ≤ most_words sli
    → let h = (run sli (opened id words first) calls).1 in wanted_words h.blocks + 3 * live_count h + (live_count h + 1) * (sure sli (want len) - 1) < words
    → (allocated sli h len).answer ≢ Err NoFit
