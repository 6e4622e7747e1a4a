-- The facts that each call keeps, and those that a refused one leaves.
use Rattle.std.specs.Prelude.{◌≡◌, ℕ, ◌+◌, ◌≤◌, Result, OnErr}
use Rattle.tlsf_class.specs.Classes.{IsLevel}
use Rattle.tlsf_heap.specs.Footprint.{LeavesLive, LeavesPayloads}
use Rattle.tlsf_heap.specs.FreePlaces.{ShowsLists}
use Rattle.tlsf_heap.specs.Image.{Shows}
use Rattle.tlsf_heap.specs.Lawful.{IsLawful}
use Rattle.tlsf_heap.specs.Shown.{Shown}
use Rattle.tlsf_heap.specs.WordsInUse.{words_in_use}
use Rattle.tlsf_heap.specs.declared.refusal.Refusal.{Refusal}
use Rattle.tlsf_words.specs.Touched.{InGroups}

-- the heap is of a level, lawful before and after, and its words, links and bits show its blocks and its free ones. It takes no memory
-- and gives none back, so no word moves, and the touches never fall. No more words are in use than the most that were ever
pub record Keeps (sli : ℕ) (old new : Shown) : Type 0 where
  pub level : IsLevel sli
  pub was_lawful : IsLawful old.heap
  pub lawful : IsLawful new.heap
  pub shows : Shows new.stored new.heap.blocks
  pub lists : ShowsLists sli new.stored new.marked new.heap.blocks
  pub stays : new.extents ≡ old.extents
  pub touches_rise : old.touches ≤ new.touches
  pub was_reached : words_in_use old.heap ≤ old.most_in_use
  pub reached : words_in_use new.heap ≤ new.most_in_use

-- the same heap, the same stored words, and the same most words ever in use
pub record IsAsBefore (old new : Shown) : Type 0 where
  pub heap : new.heap ≡ old.heap
  pub stored : new.stored ≡ old.stored
  pub most_in_use : new.most_in_use ≡ old.most_in_use

-- a call that changes nothing but the touches
pub record ChangesNothing (sli : ℕ) (old new : Shown) : Type 0 where
  pub same : IsAsBefore old new
  pub keeps : Keeps sli old new

-- a call that finds something out, and changes nothing. It makes at most `few` touches, in at most `many` groups of eight words. None is
-- of a live block's payload
pub record FindsOut (sli few many : ℕ) (old new : Shown) : Type 0 where
  pub same : IsAsBefore old new
  pub keeps : Keeps sli old new
  pub touches : new.touches ≤ old.touches + few
  pub leaves : LeavesLive old.heap.blocks old.touched new.touched
  pub groups : InGroups many old.touched new.touched

-- a call that may be refused: a refusal changes nothing. The most words ever in use are `high` after it. All that it touches lies in
-- `many` groups of eight words, but start bits and the lists
pub record Settles {A : Type 0} (sli many high : ℕ) (old new : Shown) (answer : Result A Refusal) : Type 0 where
  pub err : OnErr answer (IsAsBefore old new)
  pub keeps : Keeps sli old new
  pub peak : new.most_in_use ≡ high
  pub groups : InGroups many old.touched new.touched

-- a call that changes payload bytes at most, and nothing where it is refused
pub record ChangesBytes {A : Type 0} (sli : ℕ) (old new : Shown) (answer : Result A Refusal) : Type 0 where
  pub err : OnErr answer (IsAsBefore old new)
  pub keeps : Keeps sli old new
  pub most : new.most_in_use ≡ old.most_in_use

-- a part of a call, after which no more words were ever in use. It makes at most `few` touches, in `many` groups of eight words
pub record DoesPart (sli few many : ℕ) (old new : Shown) : Type 0 where
  pub keeps : Keeps sli old new
  pub most : new.most_in_use ≡ old.most_in_use
  pub touches : new.touches ≤ old.touches + few
  pub groups : InGroups many old.touched new.touched

-- a call about the block at a place touches no other live block's payload, and none where it is refused
pub record SparesOthers {A : Type 0} (at : ℕ) (old new : Shown) (answer : Result A Refusal) : Type 0 where
  pub leaves : LeavesPayloads old.heap.blocks at old.touched new.touched
  pub refused : OnErr answer (LeavesLive old.heap.blocks old.touched new.touched)
