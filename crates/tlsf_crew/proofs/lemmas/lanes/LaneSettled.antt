-- The view of a yard whose lanes were settled: the posts that wait, the capacity, and no post for a worker that isn't there.
use Rattle.tlsf_crew.proofs.Common.{[], ◌≡◌, ◌≢◌, ℕ, ◌≤◌, List, Option, Some, None, length, refl, inl, inr, ◌+◌, ◌<◌, get_or, sym, ◌∙◌, ap, arith, cases_eq, PostEnd, TakeEnd, Worker, Lanes, IsYard, post_at, take_at, lane_waits, waits_in, heap_of_worker, capacity_in, world_of, free_slots, capacity_of, waited, World, LaneSettled}
use Rattle.tlsf_crew.proofs.lemmas.worker.Slots.{some_same}
use Rattle.tlsf_crew.proofs.lemmas.lanes.Across.{waits_after}

nobody_takes : (o : Option PostEnd) (t : Option TakeEnd) → t ≡ None → lane_waits o t ≡ []
nobody_takes None t e = refl
nobody_takes (Some p) t e = rw e refl

-- no lane goes from a worker to itself, or from one that isn't there
pub none_wait : {sli : ℕ} (ws : List (Worker sli Lanes)) (i j : ℕ) → IsYard ws → (i ≢ j → length ws ≤ i) → waits_in ws i j ≡ []
none_wait ws i j yard far =
    elim (cases_eq i j) [
      | inl e ↦ rw (e, (yard.alone j).0) refl
      | inr ne ↦ nobody_takes (post_at ws i j) (take_at ws i j) (yard.outside j i (far ne)).1
    ]

pub none_for : {sli : ℕ} (ws : List (Worker sli Lanes)) (i j : ℕ) → IsYard ws → length ws ≤ j → waits_in ws i j ≡ []
none_for ws i j yard far = rw (yard.outside i j far).0 refl

pub settled_waits : {sli : ℕ} (ws vs : List (Worker sli Lanes)) (i j : ℕ) → (m : LaneSettled ws vs i j) → waits_in vs i j ≡ waited m.new_take
settled_waits ws vs i j m = rw (m.new_post_is, m.new_take_is) (waits_after m.post m.take m.new_post m.new_take m.beside)

-- its free slots and what waits are its capacity
pub settled_room : {sli : ℕ} (ws vs : List (Worker sli Lanes)) (i j : ℕ) → i < length vs → j < length vs → i ≢ j → IsYard vs → (m : LaneSettled ws vs i j)
    → free_slots m.new_post + length (waits_in vs i j) ≡ capacity_in vs
settled_room ws vs i j i_in j_in ne yard m =
    let h = yard.lanes i j i_in j_in ne in
    let same : m.new_post ≡ h.0 = some_same m.new_post h.0 (sym m.new_post_is ∙ h.2) in
    let capacity : capacity_of m.new_post ≡ capacity_in vs = ap capacity_of same ∙ h.5 in
    let waits = ap length (settled_waits ws vs i j m) in
    let room = m.beside.room in
    omega arith

pub capacity_by_world : {sli : ℕ} (ws vs : List (Worker sli Lanes)) → world_of vs ≡ world_of ws → capacity_in vs ≡ capacity_in ws
unfolding world_of
capacity_by_world {sli} ws vs e = ap (λ (w : World sli). w.capacity) e

pub heap_by_world : {sli : ℕ} (ws vs : List (Worker sli Lanes)) → world_of vs ≡ world_of ws → (j : ℕ) → heap_of_worker vs j ≡ heap_of_worker ws j
unfolding world_of
heap_by_world {sli} ws vs e j = ap (λ (w : World sli). get_or w.heaps j (heap_of_worker {sli = sli} [] 0)) e

pub waits_same : {sli : ℕ} (ws vs : List (Worker sli Lanes)) → world_of vs ≡ world_of ws → (i j : ℕ) → waits_in vs i j ≡ waits_in ws i j
unfolding world_of
waits_same {sli} ws vs e i j = ap (λ (w : World sli). w.waiting i j) e
