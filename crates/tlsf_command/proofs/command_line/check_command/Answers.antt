use Rattle.tlsf_command.proofs.Common.{◌∙◌, ap, codes, IfOk-weaker, IsOf}
use Rattle.clap.specs.Simple.{app_of_fields}
use Rattle.clap.specs.Words.{new_app}
use Rattle.tlsf_command.proofs.Building.{with_argument}
use Rattle.tlsf_command.proofs.command_line.check_command.Goals as goal

pub returns : goal.returns
returns c =
    let plain : IsOf (new_app (codes "check")) c.override_usage.result = (ap app_of_fields c.override_usage.ensures ∙ c.described-plain.ensures.0, rw c.override_usage.ensures c.described-plain.ensures.1) in
    IfOk-weaker c.arg.result _ _ (λ command added. with_argument plain c.file_argument.ensures added) c.arg.ensures
