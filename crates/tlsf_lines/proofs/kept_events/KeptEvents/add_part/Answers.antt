use Rattle.tlsf_lines.proofs.Common.{event_kept}
use Rattle.tlsf_lines.proofs.KeptSteps.{part_made}
use Rattle.tlsf_lines.proofs.kept_events.KeptEvents.add_part.Goals as goal

pub returns : goal.returns
returns c =
    let kept = c.deref.result.now in
    let chunks = c.deref-chunks.result.now in
    part_made (event_kept chunks) kept c.args.self.now c.args.part.now.items c.loop-event.part.items c.args.first c.args.n c.loop-event.event-index
    (rw (c.deref.ensures.value, c.deref-chunks.ensures.value) c.self.view_is) c.loop-event.invariant c.loop-event-test.false
