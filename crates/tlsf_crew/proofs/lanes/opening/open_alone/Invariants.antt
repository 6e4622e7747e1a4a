use Rattle.tlsf_crew.proofs.Common.{◌≡◌, ◌≤◌, map, vec_len, vec_capacity, opened_heaps, heap_of, id_and_capacity, opened_numbers}
use Rattle.tlsf_crew.proofs.lemmas.lanes.NewLanes.{AreAlone}
use Rattle.tlsf_crew.proofs.lanes.opening.open_alone.Given as goal

abbrev pub invariant-loop-id : goal.invariant-loop-id
invariant-loop-id g l = record {
  count : vec_len l.workers ≡ l.id;
  room : l.n ≤ vec_capacity l.workers;
  heaps : map heap_of l.workers.items ≡ opened_heaps l.id l.words;
  numbers : map id_and_capacity l.workers.items ≡ opened_numbers l.id l.capacity;
  alone : AreAlone l.workers.items l.n;
}
