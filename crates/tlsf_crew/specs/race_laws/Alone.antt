-- The result of a race where no script takes posts: the schedule of the threads decides nothing.
use Rattle.std.specs.Prelude.{◌≡◌, ℕ, List, ⊤}
use Rattle.tlsf_crew.specs.Common.{AllByRecursion, Call, Take, Drain, Entry}
use Rattle.tlsf_crew.specs.model.World.{World, Replayed, replies}
use Rattle.tlsf_crew.specs.races.Race.{IsRace, events_by}
use Rattle.tlsf_crew.specs.scripts.Scripts.{script_of}

-- the call takes no post
abbrev pub TakesNoPost : Call → Type 0
TakesNoPost (Take from) = ⊥
TakesNoPost (Drain most) = ⊥
TakesNoPost call = ⊤

-- so doesn't any call of a script: what a worker takes, it takes in its last drain
abbrev pub OnlyLastDrains : List (List Call) → Type 0
OnlyLastDrains scripts = (j : ℕ) → AllByRecursion TakesNoPost (script_of scripts j)

-- two races of the same scripts from the same world tell the same records and leave the same world
abbrev pub RaceIsOne : ℕ → Type 0
RaceIsOne sli = (w v u : World sli) (scripts : List (List Call)) (records others : List (List Entry)) → OnlyLastDrains scripts
    → IsRace w scripts records v → IsRace w scripts others u → (records ≡ others) × (v ≡ u)

-- the script of worker j, run as if no other worker did anything
abbrev pub alone : {sli : ℕ} → World sli → List (List Call) → ℕ → Replayed sli
alone w scripts j = replies w (events_by j (script_of scripts j))
