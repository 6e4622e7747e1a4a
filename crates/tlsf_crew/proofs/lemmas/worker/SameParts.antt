-- The facts that stay of a worker with another heap, and of one with other ports.
use Rattle.tlsf_crew.proofs.Common.{◌≡◌, ℕ, Worker, heap_of, SameButPorts}

pub ports_heap : {sli : ℕ} {P : Type 0} (a v : Worker sli P) → SameButPorts a v → heap_of v ≡ heap_of a
ports_heap a v same = λ t. (same.1 t).heap
