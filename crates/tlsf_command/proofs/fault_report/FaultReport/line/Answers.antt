use Rattle.tlsf_command.proofs.Common.{contents_after_writes}
use Rattle.tlsf_command.proofs.fault_report.FaultReport.line.Goals as goal

pub returns : goal.returns
returns c =
    let written = contents_after_writes _ (λ line. line.bytes) (λ old bytes new took. took) _ _ _ c.in_ok-writeln.ensures.writes in
    rw c.new-line.ensures at written
