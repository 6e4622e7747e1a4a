use Rattle.tlsf_command.proofs.Common.{IfOk-weaker}
use Rattle.tlsf_command.proofs.Building.{with_argument}
use Rattle.tlsf_command.proofs.command_line.map_command.Goals as goal

pub returns : goal.returns
returns c =
    let lined = with_argument c.in_ok-command.ensures c.line_argument.ensures c.in_ok-lined.ensures in
    let worst = with_argument lined c.flag.ensures c.in_ok-worst.ensures in
    IfOk-weaker c.arg-3.result _ _ (λ command added. with_argument worst c.flag-2.ensures added) c.arg-3.ensures
