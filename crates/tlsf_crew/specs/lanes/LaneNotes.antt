-- The notes of a drain of lanes on the posts that it takes. This serves the contracts and proofs of private functions alone.
use Rattle.std.specs.Prelude.{◌≡◌, ℕ, Option, None}
use Rattle.tlsf_crew.specs.Common.{Took, Lanes}
use Rattle.tlsf_crew.specs.lanes.LaneWorkers.{HearsLane, TookThrough}
use Rattle.tlsf_crew.specs.worker.Notes.{TakeRules}

-- a drain leaves a lane at once where the notes admit no more
abbrev pub StopsAtLane : Lanes → Lanes → ℕ → Type 0
StopsAtLane p q from = q ≡ p

-- the entry of a take names its lane
abbrev pub lane_rules : {N : Type 0} → (N → ℕ → Type 0) → (N → ℕ → ℕ → Option ℕ → Took → N → Type 0) → TakeRules Lanes N
lane_rules admitted noted = record { hears = HearsLane; takes = TookThrough; stops = StopsAtLane; sent_by = λ from. None; admitted = admitted; noted = noted }
