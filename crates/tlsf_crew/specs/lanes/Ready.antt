-- How many posts the ends of a yard know to be ready.
use Rattle.std.specs.Prelude.{ℕ, List, length, Option, Some, None}
use Rattle.tlsf_crew.specs.Common.{TakeEnd, ready, Worker, Lanes}
use Rattle.tlsf_crew.specs.lanes.LaneWorkers.{end_from}
use Rattle.tlsf_crew.specs.lanes.Yard.{take_at}
use Rattle.tlsf_crew.specs.model.Sums.{sum_below}

-- how many posts an end knows to be ready; none where there is no end
abbrev pub count_of : Option TakeEnd → ℕ
count_of None = 0
count_of (Some t) = length (ready t)

-- how many are ready for a worker from worker i
abbrev pub ready_from : {sli : ℕ} → Worker sli Lanes → ℕ → ℕ
ready_from w i = count_of (end_from w i)

-- how many are ready for the workers below k, and in a whole yard
abbrev pub ready_below : {sli : ℕ} → List (Worker sli Lanes) → ℕ → ℕ
ready_below ws k = sum_below k (λ j. sum_below (length ws) (λ i. count_of (take_at ws i j)))

unfoldable pub ready_in : {sli : ℕ} → List (Worker sli Lanes) → ℕ
ready_in ws = ready_below ws (length ws)
