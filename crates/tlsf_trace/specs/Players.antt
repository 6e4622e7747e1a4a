-- A yard that runs a trace line by line.
use Rattle.std.specs.Prelude.{◌≡◌, ℕ, List, ◌++◌, length, take}
use Rattle.tlsf_calls.specs.declared.entry.Entry.{Entry}
use Rattle.tlsf_crew.specs.lanes.Yard.{world_of}
use Rattle.tlsf_lines.specs.Events.{events_by, events_of}
use Rattle.tlsf_lines.specs.Trace.{Trace}
use Rattle.tlsf_trace.specs.Moments.{moment_at}
use Rattle.tlsf_trace.specs.declared.player.Player.{Player}

-- its yard has run a trace up to a line, and these are the names that the events made
pub record Stands {sli : ℕ} (line : ℕ) (trace : Trace) (player : Player sli) : Type 0 where
  pub world : world_of player.workers.items ≡ (moment_at sli line trace).world
  pub made : player.made.items ≡ (moment_at sli line trace).made
  pub ran : player.ran ≡ length (take (events_by line trace) (events_of trace))

-- it has run on from a line to another, and these entries are the answers after those before
pub record PlaysOn {sli : ℕ} (from line : ℕ) (trace : Trace) (player : Player sli) (entries : List Entry) : Type 0 where
  pub stands : Stands line trace player
  pub told : (moment_at sli line trace).entries ≡ (moment_at sli from trace).entries ++ entries
