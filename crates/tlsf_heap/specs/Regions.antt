-- A region as its blocks and the lists of its free blocks.
use Rattle.std.specs.Prelude.{◌≡◌, ◌≢◌, ℕ, ◌+◌, ◌<◌, ◌≤◌, ◌==◌, List, [], ◌∷◌, ◌++◌, length, slice_index_or, true, false}
use Rattle.std.specs.List.{AllByRecursion}
use Rattle.tlsf_class.specs.Classes.{IsLevel, most_words, class_of}
use Rattle.tlsf_words.specs.Memory.{Memory, Extents}
use Rattle.tlsf_words.specs.Lists.{ListHeads, nowhere, without_place, LinkedFrom, IsUnlisted}
use Rattle.tlsf_words.specs.Touched.{InGroups}
use Rattle.tlsf_words.specs.declared.tag.Tag.{Tag}
use Rattle.tlsf_heap.specs.Blocks.{Block, Live, Free, size_of, words_in, is_free, bytes_of, words_for, stamps, StandsAt}
use Rattle.tlsf_heap.specs.Calls.{first_free, past_free, last_free, before_free}
use Rattle.tlsf_heap.specs.GoodFit.{Site, site_at, place_of}
use Rattle.tlsf_heap.specs.FreePlaces.{AreFreeLists, AreMarked}
use Rattle.tlsf_heap.specs.Image.{Image, back_behind, Shows}
use Rattle.tlsf_heap.specs.Lawful.{IsRegion}
use Rattle.tlsf_heap.specs.Listed.{lists_of}
use Rattle.tlsf_heap.specs.Read.{blocks_of}
use Rattle.tlsf_heap.specs.Footprint.{LeavesLive, LeavesPayloads}

-- the view of a region: how many words it has, its blocks, and for each class the places in its free list, from the head. Also the
-- classes whose bits are set, the words that are stored in it, the memory that it has, and its touches
pub record RegionState : Type 0 where
  pub words : ℕ
  pub blocks : List Block
  pub lists : List (List ℕ)
  pub marked : List ℕ
  pub stored : Image
  pub extents : Extents
  pub touches : ℕ
  pub touched : List ℕ

-- each block has a number of words that a region of a level may have
abbrev pub AreRegions : ℕ → List Block → Type 0
AreRegions sli blocks = AllByRecursion (λ block. IsRegion sli (size_of block)) blocks

-- of the block that begins at a place, where it stands, this holds
abbrev pub EachAt : List Block → ℕ → (Site → Type 0) → Type 0
EachAt blocks at P = (i : ℕ) → StandsAt blocks at i → P (site_at blocks i)

-- a block begins at a place, and of it, where it stands, this holds
abbrev pub HasAt : List Block → ℕ → (Site → Type 0) → Type 0
HasAt blocks at P = (i : ℕ) × StandsAt blocks at i × P (site_at blocks i)

-- the tag of a block in a region of this many words
pub record IsTagOf (words : ℕ) (s : Site) (tag : Tag) : Type 0 where
  pub size : tag.size ≡ size_of s.block
  pub free : tag.free ≡ is_free s.block
  pub last : tag.last ≡ (place_of s + size_of s.block == words)
  pub back : tag.back ≡ back_behind 0 nowhere s.before

-- the tag of the block after a block in a region of this many words, if that is free; otherwise a live one
pub record IsNextTag (words : ℕ) (s : Site) (tag : Tag) : Type 0 where
  pub live : tag.free ≡ false → first_free s.after ≡ 0
  pub some : tag.free ≡ true → 0 < first_free s.after
  pub size : tag.free ≡ true → tag.size ≡ first_free s.after
  pub last : tag.free ≡ true → tag.last ≡ (place_of s + size_of s.block + first_free s.after == words)

-- the tag of the block before a block, if that is free; else a live one
pub record IsPreviousTag (s : Site) (tag : Tag) : Type 0 where
  pub live : tag.free ≡ false → last_free s.before ≡ 0
  pub some : tag.free ≡ true → 0 < last_free s.before
  pub size : tag.free ≡ true → tag.size ≡ last_free s.before
  pub last : tag.free ≡ true → tag.last ≡ false
  pub back : tag.free ≡ true → tag.back ≡ back_behind 0 nowhere (before_free s.before)

-- the tags of a block and of its neighbours
pub record AreTagsAround (words : ℕ) (s : Site) (own next previous : Tag) : Type 0 where
  pub is_own : IsTagOf words s own
  pub is_next : IsNextTag words s next
  pub is_previous : IsPreviousTag s previous

-- a block and its free neighbours in a region of this many words. They are how many words are ahead and after, and the tag of them
-- all as one block
pub record AreNeighbours (words : ℕ) (s : Site) (ahead behind : ℕ) (tag : Tag) : Type 0 where
  pub before : ahead ≡ last_free s.before
  pub after : behind ≡ first_free s.after
  pub size : tag.size ≡ last_free s.before + size_of s.block + first_free s.after
  pub free : tag.free ≡ true
  pub last : tag.last ≡ (place_of s + size_of s.block + first_free s.after == words)
  pub back : tag.back ≡ back_behind 0 nowhere (before_free s.before)

-- the blocks of a region, were a block and its free neighbours a live one. While these are in no list, the lists are of the others
abbrev pub withheld : Site → List Block
withheld s = before_free s.before ++ Live (last_free s.before + size_of s.block + first_free s.after) 0 [] ∷ past_free s.after

-- the blocks of a region, were this one live: while a free block is in no list, the lists are of the others
abbrev pub withheld_alone : Site → List Block
withheld_alone s = s.before ++ Live (size_of s.block) 0 [] ∷ s.after

-- the tag of the free block after a block in a region of this many words. Where there is none, it is a live one of size 0
pub record IsTagBehind (words : ℕ) (s : Site) (tag : Tag) : Type 0 where
  pub next : IsNextTag words s tag
  pub size : tag.size ≡ first_free s.after

-- a block and the free block behind it in a region of this many words. They are how many words that has, 0 where there is none, and
-- the tag of both as one free block
pub record IsWhole (words : ℕ) (s : Site) (tag : Tag) (behind : ℕ) : Type 0 where
  pub after : behind ≡ first_free s.after
  pub size : tag.size ≡ size_of s.block + behind
  pub free : tag.free ≡ true
  pub last : tag.last ≡ (place_of s + size_of s.block + first_free s.after == words)
  pub back : tag.back ≡ back_behind 0 nowhere s.before

-- a live block whose payload ends within the `n` words behind its header, which are its own
pub record AwaitsZeros (block : Block) (n : ℕ) : Type 0 where
  pub live : is_free block ≡ false
  pub payload : words_for (length (bytes_of block)) ≤ 3 + n
  pub within : 3 + n ≤ size_of block

-- of the lists of all classes, that of one
abbrev pub list_in : List (List ℕ) → ℕ → List ℕ
list_in lists class = slice_index_or lists class []

-- a region is of a level, and its blocks fill it. They have sizes of the level, and each class has the list of its free ones
pub record IsInOrder (sli : ℕ) (r : RegionState) : Type 0 where
  pub level : IsLevel sli
  pub whole : words_in r.blocks ≡ r.words
  pub sized : AreRegions sli r.blocks
  pub small : words_in r.blocks ≤ most_words sli
  pub listed : AreFreeLists sli r.blocks (list_in r.lists)

-- a region is in order, and its free blocks are stamped with ticks before this one
pub record AwaitsTick (sli tick : ℕ) (r : RegionState) : Type 0 where
  pub order : IsInOrder sli r
  pub stamped : AllByRecursion (λ s. s < tick) (stamps r.blocks)

-- each class has the same list
abbrev pub SameLists : (ℕ → List ℕ) → (ℕ → List ℕ) → Type 0
SameLists new old = (class : ℕ) → new class ≡ old class

-- no place from one to an end is in a list
abbrev pub AreUnlisted : (ℕ → List ℕ) → ℕ → ℕ → Type 0
AreUnlisted lists from end = (k : ℕ) → from ≤ k → k < end → IsUnlisted lists k

-- the links in the words thread the lists
abbrev pub AreLinked : (ℕ → List ℕ) → List ℕ → Type 0
AreLinked lists words = (class : ℕ) → LinkedFrom words nowhere (lists class)

-- what is stored in the words of a region, without their touches
abbrev pub image_of : Memory → Image
image_of m = record { words = m.words; starts = m.starts }

-- what the words and the lists of a region show
abbrev pub region_of : Memory → ListHeads → RegionState
region_of m l = record { words = length m.words; blocks = blocks_of m.words; lists = lists_of l.heads m.words; marked = l.members; stored = image_of m; extents = m.extents; touches = m.touches + l.touches; touched = m.touched }

-- one free block of this many words fills the region, and is alone in the lists
pub record IsAlone (sli size stamp : ℕ) (r : RegionState) : Type 0 where
  pub least : 4 ≤ size
  pub words : r.words ≡ size
  pub blocks : r.blocks ≡ Free size stamp ∷ []
  pub list : list_in r.lists (class_of sli size) ≡ 0 ∷ []
  pub others : (other : ℕ) → other ≢ class_of sli size → list_in r.lists other ≡ []
  pub shows : Shows r.stored r.blocks
  pub linked : AreLinked (list_in r.lists) r.stored.words
  pub bits : AreMarked r.marked (list_in r.lists)

-- nothing changes but the touches, which rise by `most` at most
pub record OnlyReads (old new : RegionState) (most : ℕ) : Type 0 where
  pub words : new.words ≡ old.words
  pub blocks : new.blocks ≡ old.blocks
  pub lists : new.lists ≡ old.lists
  pub marked : new.marked ≡ old.marked
  pub stored : new.stored ≡ old.stored
  pub stays : new.extents ≡ old.extents
  pub touches : new.touches ≤ old.touches + most
  pub rise : old.touches ≤ new.touches

-- the words show the blocks and thread the lists, and the bits mark these. The memory is as it was, and the touches rise by `most`
-- at most
pub record Edits (old new : RegionState) (most : ℕ) : Type 0 where
  pub words : new.words ≡ old.words
  pub shows : Shows new.stored new.blocks
  pub linked : AreLinked (list_in new.lists) new.stored.words
  pub bits : AreMarked new.marked (list_in new.lists)
  pub stays : new.extents ≡ old.extents
  pub touches : new.touches ≤ old.touches + most
  pub rise : old.touches ≤ new.touches

-- each class has the list of its free blocks again. The touches rise by `most` at most, and lie in `many` groups of eight words. None
-- is of a live block's payload, but for the block at a place
pub record Relists (sli at most many : ℕ) (old new : RegionState) : Type 0 where
  pub listed : AreFreeLists sli new.blocks (list_in new.lists)
  pub edits : Edits old new most
  pub touched : LeavesPayloads old.blocks at old.touched new.touched
  pub groups : InGroups many old.touched new.touched

-- the words show these blocks in place of the old, and each class has the list that it had
pub record Rewrites (old new : RegionState) (left : List Block) (most : ℕ) : Type 0 where
  pub blocks : new.blocks ≡ left
  pub lists : SameLists (list_in new.lists) (list_in old.lists)
  pub edits : Edits old new most

-- a place is put in front of the list of a class
pub record PutInFront (old new : RegionState) (class at most : ℕ) : Type 0 where
  pub blocks : new.blocks ≡ old.blocks
  pub list : list_in new.lists class ≡ at ∷ list_in old.lists class
  pub others : (other : ℕ) → other ≢ class → list_in new.lists other ≡ list_in old.lists other
  pub edits : Edits old new most
  pub touched : LeavesLive old.blocks old.touched new.touched
  pub groups : InGroups 2 old.touched new.touched

-- a place is taken out of the list of a class
pub record TakenOut (old new : RegionState) (class at most : ℕ) : Type 0 where
  pub blocks : new.blocks ≡ old.blocks
  pub list : list_in new.lists class ≡ without_place at (list_in old.lists class)
  pub others : (other : ℕ) → other ≢ class → list_in new.lists other ≡ list_in old.lists other
  pub edits : Edits old new most
  pub touched : LeavesLive old.blocks old.touched new.touched
  pub groups : InGroups 3 old.touched new.touched

-- the lists of all classes without a place that one of them has
pub record IsWithout (lists : ℕ → List ℕ) (class at : ℕ) (left : ℕ → List ℕ) : Type 0 where
  pub out : left class ≡ without_place at (lists class)
  pub others : (other : ℕ) → other ≢ class → left other ≡ lists other

-- a place is taken out of the list of one class, and put in front of that of another, or of the same
pub record MovedToFront (old new : RegionState) (from to at : ℕ) : Type 0 where
  pub left : ℕ → List ℕ
  pub without : IsWithout (list_in old.lists) from at left
  pub list : list_in new.lists to ≡ at ∷ left to
  pub others : (other : ℕ) → other ≢ to → list_in new.lists other ≡ left other
