-- The name that the target of a call means.
use Rattle.std.specs.Prelude.{List, Option, None}
use Rattle.tlsf_crew.specs.Common.{Name, Call, Allocate, Release, Write, Read, Resize, Take, Drain}
use Rattle.tlsf_crew.specs.model.World.{name_of}

-- by what the calls so far made; none where the call has no target
abbrev pub target_name : List (Option Name) → Call → Option Name
target_name made (Allocate len) = None
target_name made (Release target) = name_of made target
target_name made (Write target from bytes) = name_of made target
target_name made (Read target from n) = name_of made target
target_name made (Resize target len) = name_of made target
target_name made (Take from) = None
target_name made (Drain most) = None
