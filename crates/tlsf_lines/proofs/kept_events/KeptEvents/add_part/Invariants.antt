use Rattle.tlsf_lines.proofs.Common.{◌≡◌, ◌++◌, map, take, event_kept}
use Rattle.tlsf_lines.proofs.kept_events.KeptEvents.add_part.Given as goal

-- the events so far
abbrev pub invariant-loop-event : goal.invariant-loop-event
invariant-loop-event l = l.part.items ≡ l.fn.part.items ++ map (event_kept l.chunks) (take l.event-index l.kept)
