-- The result of a race over queues where no script takes posts: the schedule of the threads decides nothing. Each queue has one
-- poster, and none was full but where no other worker could fill it.
use Rattle.std.specs.Prelude.{◌≡◌, ◌≢◌, ℕ, ◌<◌, List, [], length}
use Rattle.tlsf_crew.specs.Common.{Name, Call, Entry, Full, Refused, record_of}
use Rattle.tlsf_crew.specs.model.World.{World}
use Rattle.tlsf_crew.specs.histories.History.{posts_taken, StandsBehind}
use Rattle.tlsf_crew.specs.race_laws.Alone.{OnlyLastDrains}
use Rattle.tlsf_crew.specs.races.QueueRace.{IsQueueRace}

-- the worker met no full queue
abbrev pub MeetsNoFull : List Entry → Type 0
MeetsNoFull entries = (before : List Entry) (e : Entry) (name : Name) → StandsBehind entries before e → e.reply ≢ Refused (Full name)

-- what worker j of n took, one worker had posted
abbrev pub HasOnePoster : ℕ → ℕ → List Entry → Type 0
HasOnePoster n j entries = (poster : ℕ) × ((i : ℕ) → i < n → i ≢ j → i ≢ poster → posts_taken i j entries ≡ [])

-- a race over queues in which each queue has one poster, and of more than two workers none met a full queue
pub record IsUncontendedRace {sli : ℕ} (w : World sli) (scripts : List (List Call)) (told : List (List Entry)) (v : World sli) : Type 0 where
  pub race : IsQueueRace w scripts told v
  pub posted : 2 < length w.heaps → (j : ℕ) → j < length w.heaps → MeetsNoFull (record_of told j)
  pub alone : (j : ℕ) → j < length w.heaps → HasOnePoster (length w.heaps) j (record_of told j)

-- two such races of the same scripts from the same world tell the same records and leave the same world
abbrev pub QueueRaceIsOne : ℕ → Type 0
QueueRaceIsOne sli = (w v u : World sli) (scripts : List (List Call)) (records others : List (List Entry)) → OnlyLastDrains scripts
    → IsUncontendedRace w scripts records v → IsUncontendedRace w scripts others u → (records ≡ others) × (v ≡ u)
