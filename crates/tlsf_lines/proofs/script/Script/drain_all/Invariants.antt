use Rattle.tlsf_lines.proofs.Common.{◌≡◌, ◌++◌, replicate, None, last_drains}
use Rattle.tlsf_lines.proofs.script.Script.drain_all.Given as goal

-- the drains so far, and a label for each
abbrev pub invariant-loop-worker : goal.invariant-loop-worker
invariant-loop-worker l = record {
  events : l.self.events ≡ l.fn.self.events ++ last_drains l.worker;
  labels : l.self.labels.items ≡ l.fn.self.labels.items ++ replicate l.worker None;
  header : l.self.header ≡ l.fn.self.header;
  calls : l.self.calls ≡ l.fn.self.calls;
  ends : l.self.ends.items ≡ l.fn.self.ends.items;
  requests : l.self.requests.items ≡ l.fn.self.requests.items;
}
