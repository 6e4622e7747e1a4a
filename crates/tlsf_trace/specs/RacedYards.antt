-- The yard of a race, whose workers are over lanes or over queues. This serves the contracts and proofs of private functions alone.
use Rattle.std.specs.Prelude.{◌≡◌, ℕ, List, vec_len}
use Rattle.tlsf_calls.specs.declared.call.Call.{Call}
use Rattle.tlsf_calls.specs.declared.entry.Entry.{Entry}
use Rattle.tlsf_crew.specs.races.QueueRace.{IsQueueRace}
use Rattle.tlsf_crew.specs.queues.QueueYard.{IsQueueYard, queue_world_of}
use Rattle.tlsf_crew.specs.races.Race.{IsRace}
use Rattle.tlsf_crew.specs.model.World.{World}
use Rattle.tlsf_crew.specs.lanes.Yard.{world_of, IsYard}
use Rattle.tlsf_trace.specs.Output.{level_in}
use Rattle.tlsf_trace.specs.RaceOutput.{IsOutputBy, RaceRelation}
use Rattle.tlsf_trace.specs.Replay.{Outputs}
use Rattle.tlsf_trace.specs.declared.raced_yard.PortKind.{PortKind}
use Rattle.tlsf_trace.specs.declared.raced_yard.PortKind.TheVariants.{Lanes, Queues}
use Rattle.tlsf_trace.specs.declared.raced_yard.RacedYard.{RacedYard}
use Rattle.tlsf_trace.specs.declared.raced_yard.RacedYard.TheVariants.{OverLanes, OverQueues}

-- what a race over ports of a kind may leave
abbrev pub races_over : PortKind → {sli : ℕ} → RaceRelation sli
races_over Lanes = IsRace
races_over Queues = IsQueueRace

-- what a trace may put out that is raced over them
abbrev pub PutsOver : PortKind → Outputs
PutsOver kind trace output = IsOutputBy {sli = level_in trace.header} (races_over kind) trace output

abbrev pub kind_in : {sli : ℕ} → RacedYard sli → PortKind
kind_in (OverLanes ws) = Lanes
kind_in (OverQueues ws) = Queues

abbrev pub count_in : {sli : ℕ} → RacedYard sli → ℕ
count_in (OverLanes ws) = vec_len ws
count_in (OverQueues ws) = vec_len ws

abbrev pub IsWhole : {sli : ℕ} → RacedYard sli → Type 0
IsWhole (OverLanes ws) = IsYard ws.items
IsWhole (OverQueues ws) = IsQueueYard ws.items

abbrev pub world_in : {sli : ℕ} → RacedYard sli → World sli
world_in (OverLanes ws) = world_of ws.items
world_in (OverQueues ws) = queue_world_of ws.items

-- the workers ran these scripts at once, and were told these records
pub record HasRaced {sli : ℕ} (yard : RacedYard sli) (scripts : List (List Call)) (records : List (List Entry)) (left : RacedYard sli) : Type 0 where
  pub kind : kind_in left ≡ kind_in yard
  pub whole : IsWhole left
  pub count : count_in left ≡ count_in yard
  pub race : races_over (kind_in yard) (world_in yard) scripts records (world_in left)
