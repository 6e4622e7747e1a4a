-- The puts and takes of the calls of a worker over lanes.
use Rattle.std.specs.Prelude.{◌≡◌, ℕ, List, Option, Some, Result, slice_get, slice_set}
use Rattle.tlsf_crew.specs.Common.{Name, Post, CrewRefusal, Took, Worker, Lanes}
use Rattle.tlsf_crew.specs.lanes.LaneWorkers.{PutThrough, TookThrough}
use Rattle.tlsf_crew.specs.lanes.Yard.{IsYard}
use Rattle.tlsf_crew.specs.worker.Calls.{TakenFrom, put_answer}

-- a yard with lanes stays whole where the one worker takes the other's place
abbrev pub KeepsYards : {sli : ℕ} → Worker sli Lanes → Worker sli Lanes → Type 0
KeepsYards {sli} a v = (ws : List (Worker sli Lanes)) (i : ℕ) → slice_get ws i ≡ Some a → IsYard ws → IsYard (slice_set ws i v)

-- a post of that name, from the worker of number `from`, was put into the lane to the worker of its heap
abbrev pub PutsIntoLane : ℕ → Lanes → Lanes → Name → Result (Unit {0}) CrewRefusal → Type 0
PutsIntoLane from p q name answer =
    (put : Result (Unit {0}) Post) × PutThrough p q name.heap (record { from = from; name = name }) put × (answer ≡ put_answer name put)

-- the lane from a worker was asked for its next post
abbrev pub TakenFromLane : {sli : ℕ} → Worker sli Lanes → Worker sli Lanes → ℕ → Option Took → Type 0
TakenFromLane a v from answer = TakenFrom TookThrough a v from answer
