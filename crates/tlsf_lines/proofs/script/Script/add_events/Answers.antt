use Rattle.tlsf_lines.proofs.ScriptSteps.{one_label}
use Rattle.tlsf_lines.proofs.script.Script.add_events.Goals as goal

pub returns : goal.returns
returns c = λ before made.
    let one = one_label c.args.self.now.header.workers c.args.line.now c.in_default.not-Phase in
    let added = c.in_ok-push.ensures in
    record {
      header = added.same.header;
      events = added.events c.args.self.now.header.workers before made;
      labels = rw one.1 added.labels;
      calls = rw one.0 added.same.calls;
      ends = added.same.ends;
      requests = added.same.requests;
    }
