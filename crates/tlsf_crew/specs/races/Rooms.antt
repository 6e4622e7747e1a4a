-- How many entries a race makes room for.
use Rattle.std.specs.Prelude.{◌≡◌, ℕ, ◌+◌, List, length, slice_get, Some, vec_capacity}
use Rattle.tlsf_crew.specs.Common.{Vec, Global, Entry, Call}
use Rattle.tlsf_crew.specs.model.World.{World}
use Rattle.tlsf_crew.specs.model.Sums.{sum_below}
use Rattle.tlsf_crew.specs.scripts.EntryRoom.{releases_of}
use Rattle.tlsf_crew.specs.scripts.Scripts.{script_of}

-- the room for the record of worker j. There is one entry for each call of its script, and one for each post that waits for it. One
-- is for each release of any script, whose post it may take. One more is for its last drain
abbrev pub record_room : {sli : ℕ} → World sli → List (List Call) → ℕ → ℕ
record_room w scripts j = length (script_of scripts j) + sum_below 8 (λ i. length (w.waiting i j) + releases_of (script_of scripts i)) + 1

-- each record has just that room
abbrev pub HaveRecordRooms : {sli : ℕ} → World sli → List (List Call) → List (Vec Entry Global) → Type 0
HaveRecordRooms w scripts records = (j : ℕ) (r : Vec Entry Global) → slice_get records j ≡ Some r → vec_capacity r ≡ record_room w scripts j

-- over queues: one entry for each call of its script, and one for each post that a queue may hold. One is for each release of any
-- script, whose post it may take. One more is for its last drain
abbrev pub queue_record_room : List (List Call) → ℕ → ℕ
queue_record_room scripts j = length (script_of scripts j) + 1024 + sum_below 8 (λ i. releases_of (script_of scripts i)) + 1

abbrev pub HaveQueueRecordRooms : List (List Call) → List (Vec Entry Global) → Type 0
HaveQueueRecordRooms scripts records = (j : ℕ) (r : Vec Entry Global) → slice_get records j ≡ Some r → vec_capacity r ≡ queue_record_room scripts j
