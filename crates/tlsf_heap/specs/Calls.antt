-- The calls of a heap: their answers, and the heap that they leave.
use Rattle.std.specs.Prelude.{ℕ, ◌+◌, ◌-◌, ◌^◌, List, [], ◌∷◌, ◌++◌, Option, Some, None, Result, Ok, Err, Bool, false, ◌&&◌, ◌==◌, nat_le, nat_lt, if◌then◌else◌, find, replicate, reverse, length, take, drop}
use Rattle.tlsf_heap.specs.Blocks.{Block, Live, Free, HeapState, size_of, bytes_of, want}
use Rattle.tlsf_heap.specs.GoodFit.{Site, sites, place_of, choice}
use Rattle.tlsf_heap.specs.declared.name.Name.{Name}
use Rattle.tlsf_heap.specs.declared.refusal.Refusal.{Refusal}
use Rattle.tlsf_heap.specs.declared.refusal.Refusal.TheVariants.{NoFit, Worn, Foreign, Stale, Range, NoRoom}

-- an answer, and the heap that the call leaves
pub record Outcome (A : Type 0) : Type 0 where
  pub answer : Result A Refusal
  pub heap : HeapState

-- a refusal leaves the heap as it was
abbrev pub refused : {A : Type 0} → HeapState → Refusal → Outcome A
refused h why = record { answer = Err why; heap = h }

-- the last tick, at which nothing more can change
abbrev pub last_tick : ℕ
last_tick = 2 ^ 64 - 1

abbrev pub is_worn : HeapState → Bool
is_worn h = h.tick == last_tick

-- the heap one tick later, with other blocks
abbrev pub ticked : HeapState → List Block → HeapState
ticked h blocks = record { id = h.id; words = h.words; tick = h.tick + 1; blocks = blocks }

-- ---- open

-- a new heap is one free block
abbrev pub opened : ℕ → ℕ → ℕ → HeapState
opened id words first = record { id = id; words = words; tick = first + 1; blocks = Free words first ∷ [] }

-- ---- allocate

-- the blocks that a free block of `size` words becomes where n are wanted. They are a live block, and a free rest of four words or
-- more
abbrev pub carved : ℕ → ℕ → ℕ → ℕ → List Block
carved size n tick len =
    if nat_le (n + 4) size then Live n tick (replicate len 0) ∷ Free (size - n) tick ∷ [] else Live size tick (replicate len 0) ∷ []

abbrev pub allocated_at : HeapState → ℕ → ℕ → Option Site → Outcome Name
allocated_at h n len None = refused h NoFit
allocated_at h n len (Some s) = if is_worn h then refused h Worn else record {
  answer = Ok (record { heap = h.id; at = place_of s; serial = h.tick });
  heap = ticked h (s.before ++ carved (size_of s.block) n h.tick len ++ s.after);
}

-- a request of n words for `len` bytes, served by good fit
abbrev pub allocated_words : ℕ → HeapState → ℕ → ℕ → Outcome Name
allocated_words sli h n len = allocated_at h n len (choice sli n h.blocks)

-- a request of `len` bytes
abbrev pub allocated : ℕ → HeapState → ℕ → Outcome Name
allocated sli h len = allocated_words sli h (want len) len

-- ---- release

-- whether it is a live block with this serial
abbrev pub has_serial : ℕ → Block → Bool
has_serial serial (Live size own bytes) = own == serial
has_serial serial (Free size stamp) = false

-- whether the block that stands there has this place and this serial
abbrev pub is_named : ℕ → ℕ → Site → Bool
is_named at serial s = has_serial serial s.block && place_of s == at

-- the live block that a name names
abbrev pub named : Name → List Block → Option Site
named name blocks = find (is_named name.at name.serial) (sites blocks)

-- the size of the free block that a list begins with, or 0
abbrev pub first_free : List Block → ℕ
first_free [] = 0
first_free (Live size serial bytes ∷ blocks) = 0
first_free (Free size stamp ∷ blocks) = size

-- the list without the free block that it begins with
abbrev pub past_free : List Block → List Block
past_free [] = []
past_free (Live size serial bytes ∷ blocks) = Live size serial bytes ∷ blocks
past_free (Free size stamp ∷ blocks) = blocks

-- the size of the free block that a list ends with, or 0
abbrev pub last_free : List Block → ℕ
last_free blocks = first_free (reverse blocks)

-- the list without the free block that it ends with
abbrev pub before_free : List Block → List Block
before_free blocks = reverse (past_free (reverse blocks))

-- a block and its free neighbours become one free block
abbrev pub coalesced : ℕ → Site → List Block
coalesced tick s = before_free s.before ++ Free (last_free s.before + size_of s.block + first_free s.after) tick ∷ past_free s.after

abbrev pub released_at : HeapState → Option Site → Outcome (Unit {0})
released_at h None = refused h Stale
released_at h (Some s) = if is_worn h then refused h Worn else record { answer = Ok tt; heap = ticked h (coalesced h.tick s) }

-- the release of the block that a name names
abbrev pub released : HeapState → Name → Outcome (Unit {0})
released h name = if name.heap == h.id then released_at h (named name h.blocks) else refused h Foreign

-- ---- reset

-- all blocks back in one step. It leaves a heap as if opened at its tick, so no serial comes again
abbrev pub reset : HeapState → Outcome (Unit {0})
reset h = if is_worn h then refused h Worn else record { answer = Ok tt; heap = opened h.id h.words h.tick }

-- ---- write

-- some bytes with those from number `at` on replaced
abbrev pub overwritten : List ℕ → ℕ → List ℕ → List ℕ
overwritten bytes at new = take at bytes ++ new ++ drop (at + length new) bytes

-- a block with other payload bytes
abbrev pub with_bytes : Block → List ℕ → Block
with_bytes (Live size serial bytes) new = Live size serial new
with_bytes (Free size stamp) new = Free size stamp

-- whether n bytes from number `at` on are bytes of the block
abbrev pub has_bytes : Block → ℕ → ℕ → Bool
has_bytes block at n = nat_le (at + n) (length (bytes_of block))

-- the heap with other blocks, at the same tick
abbrev pub with_blocks : HeapState → List Block → HeapState
with_blocks h blocks = record { id = h.id; words = h.words; tick = h.tick; blocks = blocks }

abbrev pub written_at : HeapState → ℕ → List ℕ → Option Site → Outcome (Unit {0})
written_at h at bytes None = refused h Stale
written_at h at bytes (Some s) = if has_bytes s.block at (length bytes) then record {
  answer = Ok tt;
  heap = with_blocks h (s.before ++ with_bytes s.block (overwritten (bytes_of s.block) at bytes) ∷ s.after);
} else refused h Range

-- a write of bytes into the payload of the block that a name names, from byte `at` of it on
abbrev pub written : HeapState → Name → ℕ → List ℕ → Outcome (Unit {0})
written h name at bytes = if name.heap == h.id then written_at h at bytes (named name h.blocks) else refused h Foreign

-- ---- resize

-- bytes of another length: those up to the smaller length stay, and new ones are zero
abbrev pub fitted : List ℕ → ℕ → List ℕ
fitted bytes len = take len bytes ++ replicate (len - length bytes) 0

-- a live block in `room` words that keeps n of them where four or more are left: those are then a free block
abbrev pub cut : ℕ → ℕ → ℕ → ℕ → List ℕ → List Block
cut room n tick serial bytes =
    if nat_le (n + 4) room then Live n serial bytes ∷ Free (room - n) tick ∷ [] else Live room serial bytes ∷ []

-- the words in which a block can grow where it stands: its own, and those of a free block behind it
abbrev pub room_of : Block → List Block → ℕ
room_of block after = size_of block + first_free after

-- a live block takes the free block behind it in, and is cut at n words
abbrev pub recut : ℕ → ℕ → Block → List Block → List Block
recut tick n (Live size serial bytes) after = cut (size + first_free after) n tick serial bytes ++ past_free after
recut tick n (Free size stamp) after = Free size stamp ∷ after

-- whether n words leave fewer than four of a block's over
abbrev pub is_sized : ℕ → Block → Bool
is_sized n block = nat_le n (size_of block) && nat_lt (size_of block) (n + 4)

-- a live block and those behind it, once it has `len` bytes, for which it needs n words
abbrev pub refitted : ℕ → ℕ → ℕ → Block → List Block → List Block
refitted tick n len block after =
    let new = with_bytes block (fitted (bytes_of block) len) in if is_sized n block then new ∷ after else recut tick n new after

abbrev pub resized_at : HeapState → ℕ → ℕ → Option Site → Outcome (Unit {0})
resized_at h n len None = refused h Stale
resized_at h n len (Some s) = if nat_lt (room_of s.block s.after) n then refused h NoRoom else (if is_worn h then refused h Worn else record {
  answer = Ok tt;
  heap = ticked h (s.before ++ refitted h.tick n len s.block s.after);
})

-- the block that a name names gets n words for `len` bytes where it stands
abbrev pub resized_words : HeapState → Name → ℕ → ℕ → Outcome (Unit {0})
resized_words h name n len = if name.heap == h.id then resized_at h n len (named name h.blocks) else refused h Foreign

-- it gets the words wanted for `len` bytes
abbrev pub resized : HeapState → Name → ℕ → Outcome (Unit {0})
resized h name len = resized_words h name (want len) len

-- ---- read

abbrev pub read_at : ℕ → ℕ → Option Site → Result (List ℕ) Refusal
read_at at n None = Err Stale
read_at at n (Some s) = if has_bytes s.block at n then Ok (take n (drop at (bytes_of s.block))) else Err Range

-- n bytes of the payload of the block of a name, from byte `at` of it on; a read leaves the heap as it is
abbrev pub read_of : HeapState → Name → ℕ → ℕ → Result (List ℕ) Refusal
read_of h name at n = if name.heap == h.id then read_at at n (named name h.blocks) else Err Foreign

-- whether a read is done, and why not
abbrev pub read_answer : Result (List ℕ) Refusal → Result (Unit {0}) Refusal
read_answer (Ok bytes) = Ok tt
read_answer (Err why) = Err why

-- ---- calls in turn

pub data Call : Type 0 where
  Allocate : ℕ → Call  -- a length in bytes
  Release : Name → Call
  Resize : Name → ℕ → Call  -- to a length in bytes
  Write : Name → ℕ → List ℕ → Call  -- from this byte on, these bytes
  Read : Name → ℕ → ℕ → Call  -- from this byte on, so many bytes

-- what a call is answered
pub data Answer : Type 0 where
  Allocated : Result Name Refusal → Answer
  Released : Result (Unit {0}) Refusal → Answer
  Resized : Result (Unit {0}) Refusal → Answer
  Written : Result (Unit {0}) Refusal → Answer
  Got : Result (List ℕ) Refusal → Answer

-- the answer to a call, and the heap that it leaves
abbrev pub answered : ℕ → HeapState → Call → Answer × HeapState
answered sli h (Allocate len) = (Allocated (allocated sli h len).answer, (allocated sli h len).heap)
answered sli h (Release name) = (Released (released h name).answer, (released h name).heap)
answered sli h (Resize name len) = (Resized (resized h name len).answer, (resized h name len).heap)
answered sli h (Write name at bytes) = (Written (written h name at bytes).answer, (written h name at bytes).heap)
answered sli h (Read name at n) = (Got (read_of h name at n), h)

-- the answers to calls in turn, and the heap that they leave
abbrev pub run : ℕ → HeapState → List Call → List Answer × HeapState
run sli h [] = ([], h)
run sli h (call ∷ calls) = let step = answered sli h call in let rest = run sli step.1 calls in (step.0 ∷ rest.0, rest.1)
