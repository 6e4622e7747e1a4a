use Rattle.tlsf_command.proofs.Common.{Appends-nil}
use Rattle.tlsf_command.proofs.fault_report.FaultReport.write_to.Goals as goal

pub returns-in-Ok-clause-front : goal.returns-in-Ok-clause-front
returns-in-Ok-clause-front g c = rw (c.as_bytes.ensures.value, c.deref.ensures.0, c.in-Ok.ensures) at c.write_out.ensures.front

pub returns-in-Ok-clause-whole : goal.returns-in-Ok-clause-whole
returns-in-Ok-clause-whole g c = rw (c.as_bytes.ensures.value, c.deref.ensures.0, c.in-Ok.ensures) at c.write_out.ensures.ok

pub returns-in-Err-clause-front : goal.returns-in-Err-clause-front
returns-in-Err-clause-front g c = (0, Appends-nil (g.W.Write.contents c.args.stream.now))
