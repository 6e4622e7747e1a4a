use Rattle.tlsf_lines.proofs.Common.{◌++◌, ◌∷◌, [], ap, Trace}
use Rattle.tlsf_lines.proofs.trace.TraceFromLines.add.Goals as goal

pub returns : goal.returns
returns c = λ header before lines has target.
    rw c.in_ok-push.ensures.items (ap (λ (t : Trace). record { header = t.header; lines = t.lines ++ c.args.line.now ∷ [] }) has)
