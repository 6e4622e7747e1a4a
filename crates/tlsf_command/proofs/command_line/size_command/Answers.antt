use Rattle.tlsf_command.proofs.Common.{IfOk-weaker}
use Rattle.tlsf_command.proofs.Building.{with_argument}
use Rattle.tlsf_command.proofs.command_line.size_command.Goals as goal

pub returns : goal.returns
returns c =
    let first = with_argument c.described.ensures c.count_option.ensures c.in_ok-command.ensures in
    let second = with_argument first c.count_option-2.ensures c.in_ok-paired.ensures in
    let third = with_argument second c.in_ok-level_argument.ensures c.in_ok-fine.ensures in
    IfOk-weaker c.arg-4.result _ _ (λ command added. with_argument third c.flag.ensures added) c.arg-4.ensures
