use Rattle.tlsf_lines.proofs.Common.{events_in}
use Rattle.tlsf_lines.proofs.KeptSteps.{one_more}
use Rattle.tlsf_lines.proofs.kept_events.KeptEvents.push.Goals as goal

pub returns : goal.returns
returns c = λ workers before made.
    let grown = one_more c.self.inside.chunks.items c.keep.new.chunks.items c.self.inside.kept.items c.in_ok-kept.ensures.grows c.self.invariant c.in_ok-kept.kept
    (events_in workers before c.args.line.now) (c.in_ok-kept.ensures.event workers before made) in
    rw (c.in_ok-push.ensures.items, ← c.self.view_is) grown
