-- The changes that calls are made of, by words: each call of a heap is a list of them.
use Rattle.std.specs.Prelude.{◌≡◌, ◌≢◌, ℕ, ◌≤◌, List, [], ◌∷◌, IsOk, ⊤}
use Rattle.tlsf_heap.specs.Blocks.{HeapState, want}
use Rattle.tlsf_heap.specs.Aligned.{words_from}
use Rattle.tlsf_heap.specs.Calls.{Call, Allocate, Release, Resize, Write, Read, allocated_words, released, reset, resized_words, written}
use Rattle.tlsf_heap.specs.Laws.{IsTaken}
use Rattle.tlsf_heap.specs.Steady.{IsEven}
use Rattle.tlsf_heap.specs.Unset.{with_payload}
use Rattle.tlsf_heap.specs.declared.name.Name.{Name}

pub data Step : Type 0 where
  Give : ℕ → ℕ → Step  -- n words for `len` bytes, by good fit
  GiveFrom : ℕ → ℕ → Step  -- out of the free block at this place, n words
  Take : Name → Step
  Fit : Name → ℕ → ℕ → Step  -- to n words for `len` bytes, where the block stands
  Put : Name → ℕ → List ℕ → Step  -- from this byte on, these bytes
  Fill : Name → List ℕ → Step  -- these bytes, whatever the payload was
  Reset : Step  -- all blocks back
  Look : Step  -- nothing changes

-- the heap that a step leaves
abbrev pub stepped : ℕ → HeapState → Step → HeapState
stepped sli h (Give n len) = (allocated_words sli h n len).heap
stepped sli h (GiveFrom at n) = (words_from h at n).heap
stepped sli h (Take name) = (released h name).heap
stepped sli h (Fit name n len) = (resized_words h name n len).heap
stepped sli h (Put name at bytes) = (written h name at bytes).heap
stepped sli h (Fill name bytes) = with_payload h name bytes
stepped sli h Reset = (reset h).heap
stepped sli h Look = h

-- and that steps in turn leave
abbrev pub after : ℕ → HeapState → List Step → HeapState
after sli h [] = h
after sli h (step ∷ steps) = after sli (stepped sli h step) steps

abbrev pub step_of : Call → Step
step_of (Allocate len) = Give (want len) len
step_of (Release name) = Take name
step_of (Resize name len) = Fit name (want len) len
step_of (Write name at bytes) = Put name at bytes
step_of (Read name at n) = Look

-- ---- what a step is about

-- the words have room for the bytes
abbrev pub IsRoomy : Step → Type 0
IsRoomy (Give n len) = want len ≤ n
IsRoomy (GiveFrom at n) = want 0 ≤ n
IsRoomy (Fit name n len) = want len ≤ n
IsRoomy (Fill name bytes) = ⊥
IsRoomy step = ⊤

-- it is the release of this name, or a reset, and is accepted
abbrev pub TakesBack : HeapState → Name → Step → Type 0
TakesBack h name (Take other) = (other ≡ name) × IsTaken h name
TakesBack h name Reset = IsOk (reset h).answer
TakesBack h name step = ⊥

-- it is no release or resize of this name, and no reset
abbrev pub IsOfOtherBlocks : Name → Step → Type 0
IsOfOtherBlocks name (Take other) = other ≢ name
IsOfOtherBlocks name (Fit other n len) = other ≢ name
IsOfOtherBlocks name Reset = ⊥
IsOfOtherBlocks name step = ⊤

-- nor a write of it
abbrev pub IsOfOthers : Name → Step → Type 0
IsOfOthers name (Put other at bytes) = other ≢ name
IsOfOthers name (Fill other bytes) = (other.heap ≡ name.heap) × (other ≢ name)
IsOfOthers name step = IsOfOtherBlocks name step

-- it moves no block
abbrev pub IsWrite : Step → Type 0
IsWrite (Put name at bytes) = ⊤
IsWrite (Fill name bytes) = ⊤
IsWrite Look = ⊤
IsWrite step = ⊥

-- it wants an even number of words, and is of no block in front of a place, unless it writes its payload. A reset takes those back
-- too, so it is even where nothing is in front
abbrev pub IsEvenStep : ℕ → Step → Type 0
IsEvenStep from (Give n len) = IsEven n
IsEvenStep from (GiveFrom at n) = IsEven n
IsEvenStep from (Take name) = from ≤ name.at
IsEvenStep from (Fit name n len) = (from ≤ name.at) × IsEven n
IsEvenStep from Reset = from ≡ 0
IsEvenStep from step = ⊤
