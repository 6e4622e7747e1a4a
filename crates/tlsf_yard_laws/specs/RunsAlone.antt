-- A race where no script takes posts, as if each worker ran alone.
use Rattle.std.specs.Prelude.{◌≡◌, ℕ, ◌<◌, List, length}
use Rattle.tlsf_yard_laws.specs.Common.{Call, Entry, World, record_of}
use Rattle.tlsf_crew.specs.model.Progress.{told_by}
use Rattle.tlsf_crew.specs.model.World.{Replayed, called, heap_in}
use Rattle.tlsf_crew.specs.race_laws.Alone.{OnlyLastDrains, alone}
use Rattle.tlsf_crew.specs.races.Race.{IsRace}
use Rattle.tlsf_crew.specs.scripts.Scripts.{last_call}

-- where each worker ran so: what each lane holds
abbrev pub posted_alone : {sli : ℕ} → World sli → List (List Call) → World sli → World sli
posted_alone w scripts x = record { heaps = x.heaps; waiting = λ i k. (alone w scripts i).world.waiting i k; capacity = x.capacity }

-- and then the last drain of worker j
abbrev pub drained_alone : {sli : ℕ} → World sli → List (List Call) → ℕ → Replayed sli
drained_alone w scripts j = let r = alone w scripts j in called (record { made = r.made; entries = r.entries; world = posted_alone w scripts r.world }) j last_call

-- each worker of a race makes the names, has the entries and leaves the heap that it would alone
abbrev pub RaceRunsAlone : ℕ → Type 0
RaceRunsAlone sli = (w v : World sli) (scripts : List (List Call)) (records : List (List Entry)) (race : IsRace w scripts records v) → OnlyLastDrains scripts
    → (j : ℕ) → j < length w.heaps → record { made = race.made j; entries = record_of records j; heap = heap_in v j } ≡ told_by j (drained_alone w scripts j)
