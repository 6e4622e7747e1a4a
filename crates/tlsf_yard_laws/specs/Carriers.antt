-- Races, whatever carries the posts of their workers.
use Rattle.std.specs.Prelude.{◌≡◌, ℕ, List, Option}
use Rattle.tlsf_yard_laws.specs.Common.{Name, Call, Entry, World, IsRace}
use Rattle.tlsf_crew.specs.races.QueueRace.{IsQueueRace}

-- what carries posts from one worker to another
pub data Carrier : Type 0 where
  OverLanes : Carrier  -- a lane from each worker to each other one
  OverQueues : Carrier  -- a queue into each worker, for all others

-- from a world the workers ran these scripts at once, and left the other world. Their calls made these names and they were told
-- these records
abbrev pub IsRaceOver : {sli : ℕ} → Carrier → World sli → List (List Call) → (ℕ → List (Option Name)) → List (List Entry) → World sli → Type 0
IsRaceOver OverLanes w scripts made records v = (race : IsRace w scripts records v) × (race.made ≡ made)
IsRaceOver OverQueues w scripts made records v = (race : IsQueueRace w scripts records v) × (race.made ≡ made)
