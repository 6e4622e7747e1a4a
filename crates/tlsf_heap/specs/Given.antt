-- The block that an allocate gave, and the one that a resize left.
use Rattle.std.specs.Prelude.{ℕ, Option, Some, None, Result, Ok, Err}
use Rattle.tlsf_heap.specs.Blocks.{HeapState, payload_words}
use Rattle.tlsf_heap.specs.GoodFit.{Site}
use Rattle.tlsf_heap.specs.Calls.{named}
use Rattle.tlsf_heap.specs.declared.name.Name.{Name}
use Rattle.tlsf_heap.specs.declared.refusal.Refusal.{Refusal}

-- the payload words of the block there, or 0
abbrev pub payload_words_at : Option Site → ℕ
payload_words_at None = 0
payload_words_at (Some s) = payload_words s.block

-- the payload words of the live block that an allocate gave, in the heap that it left; 0 where it was refused
abbrev pub payload_words_given : {E : Type 0} → Result Name E → HeapState → ℕ
payload_words_given (Err why) h = 0
payload_words_given (Ok name) h = payload_words_at (named name h.blocks)

-- the payload words of the block of this name in the heap that a resize of it left; 0 where that was refused
abbrev pub payload_words_left : Result (Unit {0}) Refusal → HeapState → Name → ℕ
payload_words_left (Err why) h name = 0
payload_words_left (Ok done) h name = payload_words_at (named name h.blocks)
