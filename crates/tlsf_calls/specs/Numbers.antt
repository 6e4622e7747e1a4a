-- The numbers that stand for the refusals of a worker.
use Rattle.std.specs.Prelude.{ℕ}
use Rattle.tlsf_heap.specs.Numbers as heap
use Rattle.tlsf_calls.specs.declared.crew_refusal.CrewRefusal.{CrewRefusal}
use Rattle.tlsf_calls.specs.declared.crew_refusal.CrewRefusal.TheVariants.{Heap, Full, Stranger, Unmade}

abbrev pub number_of : CrewRefusal → ℕ
number_of (Heap refusal) = heap.number_of refusal
number_of (Full name) = 8
number_of Stranger = 9
number_of Unmade = 18
