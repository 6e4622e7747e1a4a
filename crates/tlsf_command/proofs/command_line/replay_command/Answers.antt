use Rattle.tlsf_command.proofs.Common.{IfOk-weaker}
use Rattle.tlsf_command.proofs.Building.{with_argument}
use Rattle.tlsf_command.proofs.command_line.replay_command.Goals as goal

pub returns : goal.returns
returns c =
    let kinds = with_argument c.in_ok-command.ensures c.flag.ensures c.in_ok-kinds.ensures in
    let least = with_argument kinds c.flag-2.ensures c.in_ok-least.ensures in
    IfOk-weaker c.arg-3.result _ _ (λ command added. with_argument least c.heaps_argument.ensures added) c.arg-3.ensures
