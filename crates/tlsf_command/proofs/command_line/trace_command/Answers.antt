use Rattle.tlsf_command.proofs.Common.{◌∙◌, ap, IfOk-weaker, IsOf}
use Rattle.clap.specs.Simple.{app_of_fields}
use Rattle.clap.specs.Words.{new_app}
use Rattle.tlsf_command.proofs.Building.{with_argument}
use Rattle.tlsf_command.proofs.command_line.trace_command.Goals as goal

pub returns : goal.returns
returns c =
    let plain : IsOf (new_app c.args.name.now) c.override_usage-plain.result = (ap app_of_fields c.override_usage-plain.ensures ∙ c.described.ensures.0, rw c.override_usage-plain.ensures c.described.ensures.1) in
    IfOk-weaker c.arg-2.result _ _ (λ command added. with_argument (with_argument plain c.flag.ensures c.in_ok-command.ensures) c.file_argument.ensures added) c.arg-2.ensures
