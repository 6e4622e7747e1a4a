use Rattle.tlsf_command.proofs.Common.{◌∙◌, ap₂, IfOk-weaker}
use Rattle.clap.specs.Words.{App, with_subcommand}
use Rattle.tlsf_command.proofs.command_line.with_command.Goals as goal

pub returns : goal.returns
returns c = λ app sub program added.
    let is = rw c.in_ok-added.was at added in
    IfOk-weaker c.subcommand.result _ _ (λ command joined. joined.shape is.1 ∙ ap₂ (λ (a s : App). with_subcommand a s.top) program is.0) c.subcommand.ensures
