use Rattle.tlsf_lines.proofs.ScriptSteps.{script_ends}
use Rattle.tlsf_lines.proofs.script.ScriptFromLines.end.Goals as goal

pub returns : goal.returns
returns c = λ header before lines has.
    let drained = c.in_ok-drain_all.ensures in
    script_ends header before lines c.args.self.now c.drain_all.new.self has drained.same.header drained.events drained.labels drained.same.calls drained.same.ends drained.same.requests
