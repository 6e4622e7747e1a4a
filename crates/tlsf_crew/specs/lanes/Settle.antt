-- Facts that `settle` tells of the lanes of a yard.
use Rattle.std.specs.Prelude.{◌≡◌, ◌≢◌, ℕ, ◌<◌, List, length, map, Some}
use Rattle.tlsf_crew.specs.Common.{PostEnd, TakeEnd, Worker, Lanes}
use Rattle.tlsf_crew.specs.worker.Workers.{shown_of}
use Rattle.tlsf_crew.specs.lanes.Yard.{post_at, take_at, world_of, BothBeside, IsYard}

-- the two ends of the lane from i to j were side by side between the two yards
pub record LaneSettled {sli : ℕ} (ws vs : List (Worker sli Lanes)) (i j : ℕ) : Type 0 where
  pub post : PostEnd
  pub take : TakeEnd
  pub new_post : PostEnd
  pub new_take : TakeEnd
  pub post_is : post_at ws i j ≡ Some post
  pub take_is : take_at ws i j ≡ Some take
  pub new_post_is : post_at vs i j ≡ Some new_post
  pub new_take_is : take_at vs i j ≡ Some new_take
  pub beside : BothBeside post take new_post new_take

-- the two ends of each lane between two workers were side by side between the two yards
abbrev pub EachLaneSettled : {sli : ℕ} → List (Worker sli Lanes) → List (Worker sli Lanes) → Type 0
EachLaneSettled ws vs = (i j : ℕ) → i < length ws → j < length ws → i ≢ j → LaneSettled ws vs i j

-- a whole yard has a worker of this number
pub record HasWorker {sli : ℕ} (ws : List (Worker sli Lanes)) (j : ℕ) : Type 0 where
  pub yard : IsYard ws
  pub inside : j < length ws

-- the yard stays whole, with the same number of workers. It shows the same, and no word of a heap was read or written
pub record KeepsWorld {sli : ℕ} (ws vs : List (Worker sli Lanes)) : Type 0 where
  pub yard : IsYard vs
  pub count : length vs ≡ length ws
  pub world : world_of vs ≡ world_of ws
  pub heaps : map shown_of vs ≡ map shown_of ws
