-- How many entries events can make.
use Rattle.std.specs.Prelude.{◌≡◌, ◌<◌, ℕ, ◌+◌, List, length, Bool, true, false, slice_index}
use Rattle.tlsf_crew.specs.Common.{count_by, Call, Allocate, Release, Write, Read, Resize, Take, Drain, Event, Lanes}
use Rattle.tlsf_crew.specs.lanes.LaneWorkers.{lane_from}
use Rattle.tlsf_crew.specs.model.World.{World}
use Rattle.tlsf_crew.specs.model.Sums.{waiting_count}
use Rattle.tlsf_crew.specs.lanes.Ready.{count_of}

abbrev pub is_release : Call → Bool
is_release (Allocate len) = false
is_release (Release target) = true
is_release (Write target from bytes) = false
is_release (Read target from n) = false
is_release (Resize target len) = false
is_release (Take from) = false
is_release (Drain most) = false

-- how many of the events are releases
abbrev pub releases_in : List Event → ℕ
releases_in es = count_by (λ e. is_release e.call) es

-- the room for the entries of events. It is one for each event, one for each release among them, whose post a drain may take, and
-- one for each post that waits
abbrev pub entry_room : {sli : ℕ} → World sli → List Event → ℕ
entry_room w es = length es + releases_in es + waiting_count w

-- how many posts may be taken of each lane: those that are ready, and one for each release of its poster's script
abbrev pub AreLaneLimits : Lanes → List ℕ → List ℕ → Type 0
AreLaneLimits lanes releases limits = (i : ℕ) → i < 8 → slice_index limits i ≡ count_of (lane_from lanes i) + slice_index releases i

-- how many calls of a script are releases
abbrev pub releases_of : List Call → ℕ
releases_of script = count_by is_release script
