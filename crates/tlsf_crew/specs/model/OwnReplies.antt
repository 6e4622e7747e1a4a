-- The replies of a worker's own heap to a call of a script, and the heap that is left.
use Rattle.std.specs.Prelude.{◌≡◌, ℕ, List, length, Option, Some, None, Result, Ok, Err}
use Rattle.tlsf_crew.specs.Common.{HeapState, Name, Refusal, Chunk, Reply, Made, Freed, Wrote, Got, Resized, Refused, Heap, Unmade}
use Rattle.tlsf_crew.specs.model.Heaps.{allocated, released, written, resized, chunk_read}

-- ---- replies by what the heap answers

-- what it gave, as a reply, or its refusal
abbrev pub reply_by : {A : Type 0} → (A → Reply) → Result A Refusal → Reply
reply_by given (Ok x) = given x
reply_by given (Err why) = Refused (Heap why)

abbrev pub reply_made : Result Name Refusal → Reply
reply_made r = reply_by Made r

abbrev pub reply_freed : Result (Unit {0}) Refusal → Reply
reply_freed r = reply_by (λ done. Freed) r

abbrev pub reply_wrote : ℕ → Result (Unit {0}) Refusal → Reply
reply_wrote n r = reply_by (λ done. Wrote n) r

abbrev pub reply_got : Result Chunk Refusal → Reply
reply_got r = reply_by Got r

abbrev pub reply_resized : Result (Unit {0}) Refusal → Reply
reply_resized r = reply_by (λ done. Resized) r

-- ---- calls

-- a reply and the heap that it leaves
pub record HeapReply : Type 0 where
  pub reply : Reply
  pub heap : HeapState

-- the reply to a call is this one, and so is the heap that it leaves
pub record IsHeapReply (reply : Reply) (g : HeapState) (x : HeapReply) : Type 0 where
  pub same : reply ≡ x.reply
  pub left : g ≡ x.heap

-- the target means no name
abbrev pub own_unmade : HeapState → HeapReply
own_unmade h = record { reply = Refused Unmade; heap = h }

abbrev pub own_allocating : ℕ → HeapState → ℕ → HeapReply
own_allocating sli h len = record { reply = reply_made (allocated sli h len).answer; heap = (allocated sli h len).heap }

abbrev pub own_freeing : HeapState → Name → HeapReply
own_freeing h name = record { reply = reply_freed (released h name).answer; heap = (released h name).heap }

-- a call whose target means this name, or none
abbrev pub own_named : HeapState → (Name → HeapReply) → Option Name → HeapReply
own_named h by None = own_unmade h
own_named h by (Some name) = by name

abbrev pub own_writing : HeapState → Option Name → ℕ → List ℕ → HeapReply
own_writing h o from bytes = own_named h (λ name. record { reply = reply_wrote (length bytes) (written h name from bytes).answer; heap = (written h name from bytes).heap }) o

abbrev pub own_reading : HeapState → Option Name → ℕ → ℕ → HeapReply
own_reading h o from n = own_named h (λ name. record { reply = reply_got (chunk_read h name from n); heap = h }) o

abbrev pub own_resizing : HeapState → Option Name → ℕ → HeapReply
own_resizing h o len = own_named h (λ name. record { reply = reply_resized (resized h name len).answer; heap = (resized h name len).heap }) o
