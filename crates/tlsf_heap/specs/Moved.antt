-- A resize that may move the block.
use Rattle.std.specs.Prelude.{ℕ, ◌+◌, Bool, Result, Ok, Err, nat_le, if◌then◌else◌, length, min, take}
use Rattle.tlsf_heap.specs.Blocks.{HeapState}
use Rattle.tlsf_heap.specs.Calls.{Outcome, refused, last_tick, allocated, released, resized, written}
use Rattle.tlsf_heap.specs.Given.{payload_words_given}
use Rattle.tlsf_heap.specs.InPlace.{payload_of}
use Rattle.tlsf_heap.specs.declared.name.Name.{Name}
use Rattle.tlsf_heap.specs.declared.refusal.Refusal.{Refusal}
use Rattle.tlsf_heap.specs.declared.refusal.Refusal.TheVariants.{NoFit, Worn, Foreign, Stale, Range, NoRoom}

-- fewer than two changes are left
abbrev pub is_nearly_worn : HeapState → Bool
is_nearly_worn h = nat_le last_tick (h.tick + 1)

-- the payload of one name, as far as another has room for it, is written there
abbrev pub copied : HeapState → Name → Name → Outcome (Unit {0})
copied h from to = written h to 0 (take (min (length (payload_of h from)) (length (payload_of h to))) (payload_of h from))

-- the payload of a name goes to the block that a request gave, and its own block is released. Here h is the heap before the request
abbrev pub moved_to : HeapState → Name → Result Name Refusal → HeapState → Outcome Name
moved_to h name (Err why) given = refused h why
moved_to h name (Ok new) given = record { answer = Ok new; heap = (released (copied given name new).heap name).heap }

-- the block of a name is moved to one of `len` bytes: two changes
abbrev pub moved : ℕ → HeapState → Name → ℕ → Outcome Name
moved sli h name len = if is_nearly_worn h then refused h Worn else moved_to h name (allocated sli h len).answer (allocated sli h len).heap

-- what follows a refused resize: a move where it was for want of room, else nothing
abbrev pub moved_for : Refusal → HeapState → Outcome Name → Outcome Name
moved_for NoRoom h move = move
moved_for NoFit h move = refused h NoFit
moved_for Worn h move = refused h Worn
moved_for Foreign h move = refused h Foreign
moved_for Stale h move = refused h Stale
moved_for Range h move = refused h Range

abbrev pub resized_else : HeapState → Name → Result (Unit {0}) Refusal → HeapState → Outcome Name → Outcome Name
resized_else h name (Ok done) left move = record { answer = Ok name; heap = left }
resized_else h name (Err why) left move = moved_for why h move

-- the block of a name gets `len` bytes where it stands, and where there is no room it is moved
abbrev pub resized_or_moved : ℕ → HeapState → Name → ℕ → Outcome Name
resized_or_moved sli h name len = resized_else h name (resized h name len).answer (resized h name len).heap (moved sli h name len)

-- the payload words of the block that a move of this length is to
abbrev pub payload_words_moved : ℕ → HeapState → ℕ → ℕ
payload_words_moved sli h len = payload_words_given (allocated sli h len).answer (allocated sli h len).heap
