-- The touches that the calls of a heap may make.
use Rattle.std.specs.Prelude.{◌≡◌, ◌≢◌, ℕ, ◌+◌, ◌*◌, ◌/◌, ◌<◌, ◌≤◌}
use Rattle.tlsf_heap.specs.Blocks.{HeapState, IsPlace}
use Rattle.tlsf_heap.specs.Footprint.{OnlyTagAndSerial}
use Rattle.tlsf_heap.specs.Laws.{IsLive}
use Rattle.tlsf_heap.specs.Shown.{Seen}
use Rattle.tlsf_heap.specs.declared.name.Name.{Name}

-- a forged name is not followed. Not even a start bit is read unless its place lies in the region, and no word unless a block
-- begins there. Where no live block has the name, no word is read but the tag and the serial at its place
pub record FollowsNoForgery (old new : Seen) (name : Name) : Type 0 where
  pub foreign : name.heap ≢ old.heap.id → new.touches ≡ old.touches
  pub outside : old.heap.words ≤ name.at → new.touches ≡ old.touches
  pub nowhere : name.heap ≡ old.heap.id → name.at < old.heap.words → ¬ (IsPlace old.heap.blocks name.at) → new.touches ≡ old.touches + 1
  pub stale : ¬ (IsLive old.heap name) → OnlyTagAndSerial name.at old.touched new.touched

-- nor is a place from outside followed. Not even a start bit is read unless it lies in the region, and no word unless a block
-- begins there
pub record FollowsNoPlace (h : HeapState) (at before behind : ℕ) : Type 0 where
  pub outside : h.words ≤ at → behind ≡ before
  pub nowhere : ¬ (IsPlace h.blocks at) → behind ≤ before + 1

-- the most touches of an allocate that fills nothing, however many bytes. They are 3 to find the class, 7 to take its head out, 9 for
-- the headers, and 7 to list the rest. One that fills takes one more for each payload word that is made zero
abbrev pub allocate_touches : ℕ
allocate_touches = 26

-- the most touches of a release. They are 3 to check the name, 2 for the tags of the neighbours, and 12 to take these out of their
-- lists. Then come 6 for the headers, and 7 to list the merged block
abbrev pub release_touches : ℕ
release_touches = 30

-- the most touches of a release by place: as a release, but that no serial is read
abbrev pub release_at_touches : ℕ
release_at_touches = 29

-- the most touches of an allocate out of the free block that begins at a place, however many bytes
abbrev pub allocate_from_touches : ℕ
allocate_from_touches = 24

-- the most touches of an aligned allocate, however many bytes. They are 26 for the allocate, 77 to move the block on, and 1 for the
-- length
abbrev pub allocate_aligned_touches : ℕ
allocate_aligned_touches = 104

-- the most touches of a resize. They are 3 to check the name, 1 for the tag after it, and 6 to take that block out of its list.
-- Then come 7 for the headers, 7 to list the rest, and 3 for the payload. Each payload word of the block left takes one more
abbrev pub resize_touches : ℕ
resize_touches = 27

-- the most touches of a resize that fills nothing, however many bytes
abbrev pub resize_unset_touches : ℕ
resize_unset_touches = 30

-- the most touches of a resize or move whose block doesn't stay. They are 27 for the resize that is refused, 26 for the allocate,
-- and 35 for the copy and the release. Each payload word of the new block takes three more
abbrev pub move_touches : ℕ
move_touches = 88

-- the most touches of a resize or move that fills nothing. They are 30 for the resize that is refused, 26 for the allocate, and 35
-- for the copy and the release. Each eight bytes that stay take two more
abbrev pub move_unset_touches : ℕ
move_unset_touches = 91

-- the most touches of a reset. They are 641 for the heads of the lists, 22 for the bitmaps, 3 for the header, and 7 to list the block.
-- Each 64 start bits take one more
abbrev pub reset_touches : ℕ
reset_touches = 673

-- the most touches of a write of this many bytes. They are 3 to check the name, 1 for the length, and two for each word that they
-- lie in
abbrev pub write_touches : ℕ → ℕ
write_touches len = 4 + 2 * (len / 8 + 2)

-- the most touches of a read of this many bytes: those of the check, and one for each word that they lie in
abbrev pub read_touches : ℕ → ℕ
read_touches len = 4 + (len / 8 + 2)

-- in how many groups of eight words this many words in a row lie at most, wherever the first is
abbrev pub groups_of : ℕ → ℕ
groups_of n = (n + 14) / 8

-- the groups of eight words in which all lies that an allocate of a few bytes touches. They are 3 for the list of the block given
-- and 1 for its tag, and 2 for its header. There are 3 for the header of the rest and the tag after it. Then come 2 for the list of
-- the rest, and 2 for the payload words made zero
abbrev pub allocate_groups : ℕ
allocate_groups = 13

-- those of a resize whose payload doesn't grow. They are 2 to check the name, 1 for the tag after it, and 3 for the list of that
-- block. Then come 4 for the headers and the tag after them, and 2 for the list of the rest. The length and the payload words made
-- zero have 3
abbrev pub resize_groups : ℕ
resize_groups = 15

-- those of a resize or move of a few bytes. They are 3 for the resize that is refused, those of an allocate, and 2 for both
-- lengths. Then come 4 for the bytes copied from and to, and those of a release
abbrev pub move_groups : ℕ
move_groups = 37

-- the groups of eight words in which all lies that a release touches. They are 2 of its own header, 1 of each neighbour's tag, and
-- 3 of the list of each of both that are free. Then come 3 for the header of all and the tag after it, and 2 for the list that gets
-- it
abbrev pub release_groups : ℕ
release_groups = 15
