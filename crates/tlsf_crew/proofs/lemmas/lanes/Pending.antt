-- Where all lanes of a yard were settled, all posts that wait are ready; a change of one lane changes their sum by that lane.
use Rattle.tlsf_crew.proofs.Common.{◌≡◌, ℕ, ◌+◌, ◌<◌, List, Some, length, slice_get, ap, arith, refl, inl, inr, add-one, cases_eq, waited, Worker, Lanes, lane_waits, take_at, IsYard, world_of, EachLaneSettled, sum_below, waiting_count, count_of, ready_from, ready_below, ready_in}
use Rattle.tlsf_crew.proofs.lemmas.lanes.Across.{waits_after}
use Rattle.tlsf_crew.proofs.lemmas.lanes.LaneChanges.{heaps_count}
use Rattle.tlsf_crew.proofs.lemmas.model.Sums.{same_sum}

-- what is ready for one worker more
pub worker_ready : {sli : ℕ} (ws : List (Worker sli Lanes)) (j : ℕ) (w : Worker sli Lanes) → slice_get ws j ≡ Some w → ready_below ws (j + 1) ≡ ready_below ws j + sum_below (length ws) (ready_from w)
worker_ready ws j w e = rw (add-one, e) refl

-- in a settled yard all that waits is ready, and nothing else
pub lane_ready : {sli : ℕ} (ws vs : List (Worker sli Lanes)) (i j : ℕ) → length vs ≡ length ws → EachLaneSettled ws vs → IsYard vs → i < length vs → j < length vs
    → count_of (take_at vs i j) ≡ length ((world_of vs).waiting i j)
unfolding world_of
lane_ready ws vs i j len settled yard i_in j_in =
    elim (cases_eq i j) [
      | inl e ↦ rw (e, (yard.alone j).0, (yard.alone j).1) refl
      | inr ne ↦
          let m = settled i j (omega (arith, len)) (omega (arith, len)) ne in
          let waits : lane_waits (Some m.new_post) (Some m.new_take) ≡ waited m.new_take = waits_after _ _ _ _ m.beside in
          let n = ap length waits in
          let r = ap length m.beside.fresh.2 in
          rw (m.new_post_is, m.new_take_is) (omega arith)
    ]

pub all_ready : {sli : ℕ} (ws vs : List (Worker sli Lanes)) → length vs ≡ length ws → EachLaneSettled ws vs → IsYard vs → ready_in vs ≡ waiting_count (world_of vs)
unfolding waiting_count ready_in
all_ready ws vs len settled yard =
    let n = length vs in
    rw (heaps_count vs) (same_sum n (λ j. sum_below n (λ i. length ((world_of vs).waiting i j))) (λ j. sum_below n (λ i. count_of (take_at vs i j)))
    (λ j j_in. same_sum n (λ i. length ((world_of vs).waiting i j)) (λ i. count_of (take_at vs i j)) (λ i i_in. lane_ready ws vs i j len settled yard i_in j_in)))
