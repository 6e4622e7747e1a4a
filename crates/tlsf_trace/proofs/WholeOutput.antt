-- The output, from its parts.
use Rattle.tlsf_trace.proofs.Common.{◌≡◌, ℕ, List, map, ap, World, world_of, heap_of}
use Rattle.tlsf_crew.specs.declared.worker.worker.Worker.{Worker}
use Rattle.tlsf_crew.specs.declared.worker.lanes.Lanes.{Lanes}

-- the heaps of the world that a yard shows
pub heaps_in : {sli : ℕ} → (ws : List (Worker sli Lanes)) (w : World sli) → world_of ws ≡ w → map heap_of ws ≡ w.heaps
unfolding world_of
heaps_in {sli} ws w is = ap (λ (x : World sli). x.heaps) is
