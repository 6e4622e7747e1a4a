-- How large a region must be for many small blocks and one large one.
use Rattle.std.specs.Prelude.{◌≡◌, ℕ, ◌+◌, ◌*◌, ◌-◌, ◌<◌, ◌≤◌, List, [], ◌∷◌, ◌++◌, map, fold, max, ⊤}
use Rattle.std.specs.List.{AllByRecursion}
use Rattle.tlsf_heap.specs.Blocks.{want}
use Rattle.tlsf_heap.specs.Lawful.{IsRegion}
use Rattle.tlsf_heap.specs.Calls.{Call, Allocate, Release, Write, Resize, Read, opened, run}
use Rattle.tlsf_pool.specs.laws.Room.{sure}
use Rattle.tlsf_pool.specs.laws.MixedSizes.{HasRoomFor}
use Rattle.tlsf_pool.specs.laws.Kinds.{ArePlanned, HasClass, count_in, table_words}
use Rattle.tlsf_pool.specs.declared.kind.Kind.{Kind}

-- the bytes of the longest request of a table, 0 where it has no kind
abbrev pub longest_of : List Kind → ℕ
longest_of kinds = fold max 0 (map (λ kind. kind.len) kinds)

-- the words outside of the greatest hole, at most. They are those of the small blocks, a hole for each that is too small for one,
-- and the large block
abbrev pub scattered_words : ℕ → List Kind → Kind → ℕ
scattered_words sli smalls large = table_words smalls + count_in smalls * (sure sli (want (longest_of smalls)) - 1) + (want large.len + 3)

-- the words of a region in which a hole is left that is longer than all these together. So no small block goes there while another
-- hole has room for it. This holds also where the large block lies at the front of that hole
abbrev pub one_large_words : ℕ → List Kind → Kind → ℕ
one_large_words sli smalls large = scattered_words sli smalls large + (want large.len + 3) + sure sli (scattered_words sli smalls large + 1)

-- a call resizes no block
abbrev pub ResizesNone : Call → Type 0
ResizesNone (Allocate n) = ⊤
ResizesNone (Release name) = ⊤
ResizesNone (Write name at bytes) = ⊤
ResizesNone (Resize name n) = ⊥
ResizesNone (Read name at n) = ⊤

-- a program whose requests fit a table of small kinds, and at most one block of a longer kind, resizes no block. It is never
-- answered NoFit in a region of one_large_words
abbrev pub OneLargeSuffices : ℕ → Type 0
OneLargeSuffices sli = (id words first : ℕ) (smalls : List Kind) (large : Kind) (calls : List Call) → IsRegion sli words → HasClass sli large → large.most ≤ 1 → longest_of smalls < large.len
    → one_large_words sli smalls large ≤ words → AllByRecursion ResizesNone calls
    → let answers = (run sli (opened id words first) calls).0 in ArePlanned (smalls ++ large ∷ []) [] calls answers → AllByRecursion HasRoomFor answers

-- at level 4, 121,740 words are room for 2,000 blocks of up to 64 bytes and one of up to 65,536
abbrev pub ThousandsAndOne : Type 0
ThousandsAndOne = one_large_words 4 (record { most = 2000; len = 64 } ∷ []) (record { most = 1; len = 65536 }) ≡ 121740
