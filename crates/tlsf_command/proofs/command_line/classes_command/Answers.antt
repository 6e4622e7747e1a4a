use Rattle.tlsf_command.proofs.Common.{IfOk-weaker}
use Rattle.tlsf_command.proofs.Building.{with_argument}
use Rattle.tlsf_command.proofs.command_line.classes_command.Goals as goal

pub returns : goal.returns
returns c =
    let first = with_argument c.described.ensures c.size_argument.ensures c.in_ok-command.ensures in
    IfOk-weaker c.arg-2.result _ _ (λ command added. with_argument first c.in_ok-level_argument.ensures added) c.arg-2.ensures
