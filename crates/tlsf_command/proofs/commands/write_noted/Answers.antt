use Rattle.tlsf_command.specs.FaultLines.{fault_line}
use Rattle.tlsf_command.proofs.Fronts.{front_of_both, front_of_first}
use Rattle.tlsf_command.proofs.commands.write_noted.Goals as goal

pub returns-in_err-write_to : goal.returns-in_err-write_to
returns-in_err-write_to g c =
    front_of_first (g.E.Write.contents c.args.errors.now) (g.E.Write.contents c.write_to.new.stream) (fault_line c.args.report.fault) c.args.note.now c.write_to.ensures.front

pub returns : goal.returns
returns g c =
    front_of_both (g.E.Write.contents c.args.errors.now) (g.E.Write.contents c.write_to.new.stream) (g.E.Write.contents c.write_out.new.writer) (fault_line c.args.report.fault) c.args.note.now
    c.in_ok-write_to.ensures.whole (rw c.as_bytes.ensures.value at c.write_out.ensures.front)
