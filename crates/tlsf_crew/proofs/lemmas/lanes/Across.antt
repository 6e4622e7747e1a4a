-- Settling a lane leaves the world as it is, and a post or a take over a settled lane changes that lane alone.
use Rattle.tlsf_crew.proofs.Common.{◌≡◌, ◌≢◌, ℕ, List, Some, length, sym, ◌∙◌, refl, subst, drop_at, append-nil, PostEnd, TakeEnd, waited, taken, Worker, Lanes, post_at, take_at, BothBeside, IsYard, lane_waits, world_of, KeepsWorld, OnlyLaneSettled}
use Rattle.tlsf_crew.proofs.lemmas.lanes.LaneSlots.{step_change, step_heaps}
use Rattle.tlsf_crew.proofs.lemmas.model.Edits.{with_same}
use Rattle.tlsf_crew.proofs.lemmas.lanes.LaneChanges.{changed_world, waits_between, changed_yard}
use Rattle.tlsf_crew.proofs.lemmas.lanes.Signed.{AreFrom}

-- what waits in a lane that was just settled
pub waits_after : (p : PostEnd) (t : TakeEnd) (q : PostEnd) (u : TakeEnd) → BothBeside p t q u → lane_waits (Some q) (Some u) ≡ waited u
waits_after p t q u m = rw (m.fresh.0, m.fresh.1) (append-nil (waited u))

-- what waited in it before is the same
pub waits_before : (p : PostEnd) (t : TakeEnd) (q : PostEnd) (u : TakeEnd) → BothBeside p t q u → lane_waits (Some p) (Some t) ≡ waited u
waits_before p t q u m = rw (← m.order) (drop_at (taken t) (waited u) (length (taken t)) refl)

-- and each post of it was posted by the worker at the lane's other end
signed_before : {sli : ℕ} (ws : List (Worker sli Lanes)) (i j : ℕ) (p : PostEnd) (t : TakeEnd) (q : PostEnd) (u : TakeEnd) → post_at ws i j ≡ Some p → take_at ws i j ≡ Some t
    → BothBeside p t q u → IsYard ws → AreFrom i (waited u)
signed_before ws i j p t q u a b m yard = subst (AreFrom i) (waits_before p t q u m) (rw (a, b) at (yard.signed i j))

pub settled_world : {sli : ℕ} (ws vs : List (Worker sli Lanes)) (i j : ℕ) → i ≢ j → OnlyLaneSettled ws i j vs → world_of vs ≡ world_of ws
settled_world ws vs i j ne s =
    let m = s.settled.beside in
    let c = step_change ws vs i j ne s in
    let e = changed_world ws vs i j _ _ _ _ (waited s.settled.new_take) c (waits_after _ _ _ _ m) in
    let w = waits_between ws i j _ _ c.post_is c.take_is ∙ waits_before _ _ _ _ m in
    e ∙ with_same (world_of ws) i j (waited s.settled.new_take) w

pub settled_yard : {sli : ℕ} (ws vs : List (Worker sli Lanes)) (i j : ℕ) → i ≢ j → OnlyLaneSettled ws i j vs → IsYard ws → IsYard vs
settled_yard ws vs i j ne s yard =
    let m = s.settled.beside in
    let c = step_change ws vs i j ne s in
    let new = subst (AreFrom i) (sym (waits_after _ _ _ _ m)) (signed_before ws i j _ _ _ _ c.post_is c.take_is m yard) in
    changed_yard ws vs i j _ _ _ _ ne c new yard

pub lane_keeps : {sli : ℕ} (ws vs : List (Worker sli Lanes)) (i j : ℕ) → i ≢ j → OnlyLaneSettled ws i j vs → IsYard ws → KeepsWorld ws vs
lane_keeps ws vs i j ne s yard = record {
  yard = settled_yard ws vs i j ne s yard;
  count = (step_change ws vs i j ne s).len;
  world = settled_world ws vs i j ne s;
  heaps = step_heaps ws vs i j ne s;
}
