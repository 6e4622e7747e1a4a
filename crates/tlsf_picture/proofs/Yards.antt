-- A yard in which one heap was looked at.
use Rattle.tlsf_picture.proofs.Common.{◌≡◌, ℕ, List, Some, get_or, set, refl, ap, slice_get, ◌∙◌, world_of, LeavesHeap, SameButHeap, ShowsSame, heap_of}
use Rattle.tlsf_crew.specs.declared.worker.lanes.Lanes.{Lanes}
use Rattle.tlsf_crew.specs.declared.worker.worker.Worker.{Worker}
use Rattle.tlsf_crew.specs.lanes.LaneWorkers.{id_and_capacity}
use Rattle.tlsf_crew.proofs.lemmas.lanes.LaneChanges.{heap_lanes, heap_yard}
use Rattle.tlsf_crew.proofs.lemmas.lanes.LaneSlots.{map_same, same_parts}
use Rattle.tlsf_crew.proofs.lemmas.model.Edits.{same_world}
use Rattle.tlsf_crew.proofs.lemmas.worker.OwnHeaps.{same_heap_keeps}

-- where the heap stays, the world does
same_yard : {sli : ℕ} (ws : List (Worker sli Lanes)) (i : ℕ) (a v : Worker sli Lanes) → slice_get ws i ≡ Some a → SameButHeap a v → heap_of v ≡ heap_of a
    → world_of (set ws i v) ≡ world_of ws
unfolding world_of
same_yard ws i a v is same heap =
    same_world (world_of (set ws i v)) (world_of ws) (map_same heap_of ws i a v is heap)
    (λ x y. let lanes = heap_lanes ws i a v is same x y in rw (lanes.0, lanes.1) refl)
    (ap (λ (l : List (ℕ × ℕ)). (get_or l 0 (0, 0)).1) (map_same id_and_capacity ws i a v is (same_parts a v same).0))

-- and it stays a yard
pub heap_left : {sli : ℕ} (first ws : List (Worker sli Lanes)) (i : ℕ) (a v : Worker sli Lanes) → ShowsSame first ws → slice_get ws i ≡ Some a → LeavesHeap a v → ShowsSame first (set ws i v)
heap_left first ws i a v so_far is left = record {
  yard = heap_yard ws i a v is left.same (same_heap_keeps (heap_of a) (heap_of v) left.heap) so_far.yard;
  world = same_yard ws i a v is left.same left.heap ∙ so_far.world;
}
