-- The objects behind C's handles.
use Rattle.std.specs.Prelude.{◌≡◌, ℕ, ◌-◌, ◌%◌, ◌<◌, ◌≤◌, Bool, true, false, List, [], ◌∷◌, ◌++◌, Option, Some, None, Result, IfOk, OnErr, is_some, length, map, take}
use denote.RawPtr.{Ptr}
use mathlib.Core.List.{IsPrefix}
use Rattle.tlsf_heap.specs.Blocks.{HeapState, want}
use Rattle.tlsf_heap.specs.Calls.{allocated, opened, released}
use Rattle.tlsf_heap.specs.Effects.{Releases}
use Rattle.tlsf_heap.specs.Moved.{resized_or_moved}
use Rattle.tlsf_heap.specs.Shown.{Seen}
use Rattle.tlsf_heap.specs.Touched.{release_touches}
use Rattle.tlsf_heap.specs.Image.{Image}
use Rattle.tlsf_heap.specs.declared.name.Name.{Name}
use Rattle.tlsf_heap.specs.declared.refusal.Refusal.{Refusal}
use Rattle.tlsf_post.specs.Lanes.{posts_sent, free_slots, taken, ready, IsLane}
use Rattle.tlsf_post.specs.declared.post.Post.{Post}
use Rattle.tlsf_post.specs.declared.post_end.PostEnd.{PostEnd}
use Rattle.tlsf_post.specs.declared.take_end.TakeEnd.{TakeEnd}
use Rattle.tlsf_c.specs.Counting.{no_counts, recounted}
use Rattle.tlsf_c.specs.Ends.{is_idle, post_of_end, take_of_end}
use Rattle.tlsf_c.specs.Levels.{GoesOn, seen_at}
use Rattle.tlsf_c.specs.Names.{name_of}
use Rattle.tlsf_c.specs.Refusals.{closed, status_of}
use Rattle.tlsf_c.specs.Serving.{OnKind, idle_if}
use Rattle.tlsf_c.specs.declared.heap_counts.HeapCounts.{HeapCounts}
use Rattle.tlsf_c.specs.declared.names.BlockName.{BlockName}
use Rattle.tlsf_c.specs.declared.heap_slot.HeapSlot.{HeapSlot}
use Rattle.tlsf_c.specs.declared.end_slot.EndSlot.{EndSlot}

-- ---- heaps

-- an open handle, whose heap no call is using
abbrev pub serves : HeapSlot → Bool
serves h = idle_if h.is_open h.inner.value.is_idle

-- the heap of an open handle
abbrev pub heap_in : HeapSlot → HeapState
heap_in h = h.inner.value.heap.heap

-- what that shows of a call
abbrev pub seen_in : HeapSlot → Seen
seen_in h = seen_at h.inner.value.heap

-- what is stored in its region
abbrev pub stored_in : HeapSlot → Image
stored_in h = h.inner.value.heap.stored

-- the address of its region's first word
abbrev pub address_in : HeapSlot → Ptr
address_in h = h.inner.value.heap.extents.words.address

-- its level
abbrev pub level_in : HeapSlot → ℕ
level_in h = h.inner.value.heap.level

-- its touches
abbrev pub touches_in : HeapSlot → ℕ
touches_in h = h.inner.value.heap.touches

-- the words of its region that it touched, the last first
abbrev pub touched_in : HeapSlot → List ℕ
touched_in h = h.inner.value.heap.touched

-- its counts
abbrev pub counts_in : HeapSlot → HeapCounts
counts_in h = h.inner.value.heap.counts

-- an open handle serves again, and its number, its alignment and its region's address stay. Its heap keeps its level and its memory, and touches
-- never fall. Of a note of an odd block `noted` says what becomes of it
pub record StaysOpenBut (noted : Bool → Bool → Type 0) (old new : HeapSlot) : Type 0 where
  pub serves : serves new ≡ true
  pub heap : GoesOn old.inner.value.heap new.inner.value.heap
  pub base : new.base ≡ old.base
  pub number : new.number ≡ old.number
  pub align : new.align ≡ old.align
  pub mixed : noted old.is_mixed new.is_mixed

-- so, and the note is as before
abbrev pub StaysOpen : HeapSlot → HeapSlot → Type 0
StaysOpen old new = StaysOpenBut (λ was is. is ≡ was) old new

-- the note once a call for a block of `len` bytes answered so. A block of an odd number of words that was given is noted, and no other
pub record NotesOdd (len answer : ℕ) (was is : Bool) : Type 0 where
  pub mixed : answer ≡ 0 → want len % 2 ≡ 1 → is ≡ true
  pub not_mixed : ¬ (want len % 2 ≡ 1) → is ≡ was
  pub no_note : ¬ (answer ≡ 0) → is ≡ was

-- a request for `len` bytes answered so. Where it was given a block, C has the name of it, and an odd one is noted. Where it was refused,
-- both stay
pub record NamesBlock (len : ℕ) (answer : Result Name Refusal) (old new : BlockName) (was is : Bool) : Type 0 where
  pub name : IfOk answer (λ given. given ≡ name_of new)
  pub no_name : OnErr answer (new ≡ old)
  pub odd : NotesOdd len (status_of answer) was is

-- what lies in a handle beside its heap stays
pub record KeepsBeside (old new : HeapSlot) : Type 0 where
  pub base : new.base ≡ old.base
  pub number : new.number ≡ old.number
  pub align : new.align ≡ old.align
  pub mixed : new.is_mixed ≡ old.is_mixed

-- an open handle of a new heap of that level, with that number and this many words
pub record IsNewHeap (h : HeapSlot) (sli id words : ℕ) : Type 0 where
  pub serves : serves h ≡ true
  pub level : level_in h ≡ sli
  pub heap : heap_in h ≡ opened id words 0
  pub base : h.base ≡ address_in h
  pub number : h.number ≡ id
  pub mixed : h.is_mixed ≡ false
  pub counts : counts_in h ≡ no_counts
  pub touches : touches_in h ≤ 10

-- a call on a heap's handle. Where the handle serves none, the call is refused so, and the handle stays as it is. Where it serves, it
-- stays open but for its note, these are the heap's counts then, and the call does this
pub record OnHeapBut (noted : Bool → Bool → Type 0) (old new : HeapSlot) (refused : Type 0) (left : HeapCounts) (done : Type 0) : Type 0 where
  pub closed : serves old ≡ false → refused × (new ≡ old)
  pub stays : serves old ≡ true → StaysOpenBut noted old new
  pub counts : serves old ≡ true → counts_in new ≡ left
  pub does : serves old ≡ true → done

-- so, and the note is as before
abbrev pub OnHeap : HeapSlot → HeapSlot → Type 0 → HeapCounts → Type 0 → Type 0
OnHeap old new refused left done = OnHeapBut (λ was is. is ≡ was) old new refused left done

-- the heap answers so. C is told it by these rules, and the call has the effect of one with that answer
pub record Tells {A B : Type 0} (rules : Result A Refusal → B) (told : B) (answer : Result A Refusal) (has : Result A Refusal → Type 0) : Type 0 where
  pub status : told ≡ rules answer
  pub effect : has answer

-- the answer of the heap to a request for `len` bytes
abbrev pub allocated_in : HeapSlot → ℕ → Result Name Refusal
allocated_in h len = (allocated (level_in h) (heap_in h) len).answer

-- and to a resize of the block of this name to `len` bytes, which may move it
abbrev pub moved_in : HeapSlot → Name → ℕ → Result Name Refusal
moved_in h name len = (resized_or_moved (level_in h) (heap_in h) name len).answer

-- a release of this name is answered so
abbrev pub ReleasesIn : HeapSlot → HeapSlot → Name → ℕ → Type 0
ReleasesIn old new name answer =
    OnHeap old new (answer ≡ closed) (recounted (counts_in old) (heap_in new)) (Tells status_of answer (released (heap_in old) name).answer (Releases release_touches (seen_in old) (seen_in new) name))

-- ---- ends of lanes

-- what C posts of a name
abbrev pub post_of : Name → Post
post_of name = record { from = 0; name = name }

-- and of several
abbrev pub posts_named : List BlockName → List Post
posts_named names = map (λ n. post_of (name_of n)) names

-- the first `went` of these names go into a lane: all that there is a slot for, as far as its end knows
pub record PutsNames (old new : PostEnd) (names : List BlockName) (went : ℕ) : Type 0 where
  pub lane : (t : TakeEnd) → IsLane old t → IsLane new t
  pub most : went ≤ length names
  pub sent : posts_sent new ≡ posts_sent old ++ posts_named (take went names)
  pub slots : free_slots new ≡ free_slots old - went
  pub succeeds : went < length names → free_slots old ≤ went

-- the posts sent since the lane was opened
abbrev pub sent_by : Option PostEnd → List Post
sent_by None = []
sent_by (Some p) = posts_sent p

-- how many slots it knows to be free
abbrev pub free_of : Option PostEnd → ℕ
free_of None = 0
free_of (Some p) = free_slots p

-- the posts taken since the lane was opened
abbrev pub taken_by : Option TakeEnd → List Post
taken_by None = []
taken_by (Some t) = taken t

-- those that it knows to be ready
abbrev pub ready_of : Option TakeEnd → List Post
ready_of None = []
ready_of (Some t) = ready t

-- the two are the ends of one lane
abbrev pub AreEnds : Option PostEnd → Option TakeEnd → Type 0
AreEnds (Some p) (Some t) = IsLane p t
AreEnds (Some p) None = ⊥
AreEnds None t = ⊥

-- an open handle, whose end no call is using
abbrev pub end_serves : EndSlot → Bool
end_serves h = idle_if h.is_open (is_idle h.inner.value)

-- the end of an open handle, if it is one that puts names into a lane
abbrev pub post_in : EndSlot → Option PostEnd
post_in h = post_of_end h.inner.value

-- if it is one that takes names out
abbrev pub take_in : EndSlot → Option TakeEnd
take_in h = take_of_end h.inner.value

-- it is one that puts names into a lane
abbrev pub holds_post : EndSlot → Bool
holds_post h = is_some (post_in h)

-- it is one that takes names out
abbrev pub holds_take : EndSlot → Bool
holds_take h = is_some (take_in h)

-- a call on a handle that has to hold an end which puts names in. The handle serves again with that kind
abbrev pub OnPost : EndSlot → EndSlot → ℕ → Type 0 → Type 0
OnPost old new answer done = OnKind (end_serves old) (holds_post old) old new answer ((end_serves new ≡ true) × (holds_post new ≡ true) × done)

-- and on one that has to hold an end which takes names out
abbrev pub OnTake : EndSlot → EndSlot → ℕ → Type 0 → Type 0
OnTake old new answer done = OnKind (end_serves old) (holds_take old) old new answer ((end_serves new ≡ true) × (holds_take new ≡ true) × done)

-- a call that closes an end, which has to be of that kind
abbrev pub ClosesEnd : Bool → EndSlot → EndSlot → ℕ → Type 0
ClosesEnd holds old new answer = OnKind (end_serves old) holds old new answer ((answer ≡ 0) × (new.is_open ≡ false))

-- the next post was taken, and has that name
abbrev pub HasTaken : TakeEnd → TakeEnd → Name → Type 0
HasTaken old new name = (from : ℕ) × (taken new ≡ taken old ++ record { from = from; name = name } ∷ [])
    × IsPrefix (ready old) (record { from = from; name = name } ∷ ready new)

abbrev pub Takes : Option TakeEnd → Option TakeEnd → Name → Type 0
Takes (Some old) (Some new) name = HasTaken old new name
Takes (Some old) None name = ⊥
Takes None new name = ⊥

abbrev pub sent_in : EndSlot → List Post
sent_in h = sent_by (post_in h)

abbrev pub known_slots : EndSlot → ℕ
known_slots h = free_of (post_in h)

abbrev pub taken_in : EndSlot → List Post
taken_in h = taken_by (take_in h)

abbrev pub ready_in : EndSlot → List Post
ready_in h = ready_of (take_in h)

abbrev pub AreLane : EndSlot → EndSlot → Type 0
AreLane p t = AreEnds (post_in p) (take_in t)
