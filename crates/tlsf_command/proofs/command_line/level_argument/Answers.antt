use Rattle.tlsf_command.proofs.Common.{IfOk-weaker}
use Rattle.tlsf_command.proofs.Building.{with_alias}
use Rattle.tlsf_command.proofs.command_line.level_argument.Goals as goal

pub returns : goal.returns
returns c = IfOk-weaker c.visible_alias.result _ _ (λ arg added. with_alias c.level_by_name.result arg _ _ _ c.level_by_name.ensures added) c.visible_alias.ensures
