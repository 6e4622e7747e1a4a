-- The calls of one heap: the heap's own definitions, under names that don't unfold by themselves. The heap's are `abbrev`: each
-- proof on worlds would carry their bodies in its goals, and its searches would stop at a limit.
use Rattle.std.specs.Prelude.{ℕ, List, Result, Ok, Err, nat_le, if◌then◌else◌}
use Rattle.tlsf_crew.specs.Common.{HeapState, Outcome, chunk_of, Chunk, Name, Refusal, Range}
use Rattle.tlsf_heap.specs.Calls as heap

unfoldable pub allocated : ℕ → HeapState → ℕ → Outcome Name
allocated sli h len = heap.allocated sli h len

unfoldable pub released : HeapState → Name → Outcome (Unit {0})
released h name = heap.released h name

unfoldable pub written : HeapState → Name → ℕ → List ℕ → Outcome (Unit {0})
written h name from bytes = heap.written h name from bytes

unfoldable pub resized : HeapState → Name → ℕ → Outcome (Unit {0})
resized h name len = heap.resized h name len

abbrev pub bytes_read : HeapState → Name → ℕ → ℕ → Result (List ℕ) Refusal
bytes_read h name from n = heap.read_of h name from n

abbrev pub too_many : Result (List ℕ) Refusal → Result (List ℕ) Refusal
too_many (Ok bytes) = Err Range
too_many (Err why) = Err why

abbrev pub as_chunk : Result (List ℕ) Refusal → Result Chunk Refusal
as_chunk (Ok bytes) = Ok (chunk_of bytes)
as_chunk (Err why) = Err why

-- a read of at most 64 bytes. More are refused as Range where the name is neither of another heap nor stale
unfoldable pub chunk_read : HeapState → Name → ℕ → ℕ → Result Chunk Refusal
chunk_read h name from n = if nat_le n 64 then as_chunk (bytes_read h name from n) else as_chunk (too_many (bytes_read h name from 0))
