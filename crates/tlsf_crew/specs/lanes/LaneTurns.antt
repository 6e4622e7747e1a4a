-- The takes of a drain of lanes, and the posts that it leaves.
use Rattle.std.specs.Prelude.{◌≡◌, ℕ, zero, suc, ◌-◌, ◌<◌, List, [], ◌++◌, length, None, ◌⊎◌}
use Rattle.tlsf_crew.specs.Common.{Took, Worker, Lanes}
use Rattle.tlsf_calls.specs.declared.drained.Drained.{Drained}
use Rattle.tlsf_crew.specs.worker.Workers.{heap_of}
use Rattle.tlsf_crew.specs.lanes.LaneWorkers.{HasTake, TookThrough, lane_places}
use Rattle.tlsf_crew.specs.worker.Calls.{TakesInTurn}
use Rattle.tlsf_crew.specs.lanes.LaneCalls.{TakenFromLane}
use Rattle.tlsf_crew.specs.worker.Drains.{heap_after, IsCountOf}

-- a drain of one lane: it ends where `most` posts were taken, or with a take that shows no post
pub record LaneDrained {sli : ℕ} (a v : Worker sli Lanes) (from most : ℕ) (tooks : List Took) : Type 0 where
  pub last : Worker sli Lanes
  pub takes : TakesInTurn TookThrough a last from tooks
  pub end : ((length tooks ≡ most) × (v ≡ last)) ⊎ ((length tooks < most) × TakenFromLane last v from None)

-- the turn of one worker: the lane from it is drained; where there is none, nothing happens
pub record TurnDrained {sli : ℕ} (a v : Worker sli Lanes) (from most : ℕ) (tooks : List Took) : Type 0 where
  pub lane : HasTake a from → LaneDrained a v from most tooks
  pub nowhere : ¬ (HasTake a from) → (tooks ≡ []) × (v ≡ a)

-- the turns of the workers below k, in rising order; each may take what `most` leaves
abbrev pub EachLaneDrained : {sli : ℕ} → Worker sli Lanes → Worker sli Lanes → ℕ → ℕ → List Took → Type 0
EachLaneDrained {sli} a v most zero tooks = (tooks ≡ []) × (v ≡ a)
EachLaneDrained {sli} a v most (suc k) tooks =
    (b : Worker sli Lanes) × (before : List Took) × (here : List Took)
    × (tooks ≡ before ++ here) × EachLaneDrained a b most k before × TurnDrained b v k (most - length before) here

-- a drain of all lanes
pub record DrainedAll {sli : ℕ} (a v : Worker sli Lanes) (most : ℕ) (answer : Drained) : Type 0 where
  pub tooks : List Took
  pub lanes : EachLaneDrained a v most (lane_places a) tooks
  pub heap : heap_of v ≡ heap_after (heap_of a) tooks
  pub count : IsCountOf answer tooks
