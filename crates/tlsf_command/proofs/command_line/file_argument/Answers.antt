use Rattle.std.proofs.Common.{◌∙◌, Some, ap}
use Rattle.clap.specs.Words.{Rule, rule_of}
use Rattle.clap.specs.declared.builder.action.ArgAction.TheVariants.{Append}
use Rattle.clap.specs.declared.builder.arg.Arg.{Arg}
use Rattle.tlsf_command.proofs.command_line.file_argument.Goals as goal

pub returns : goal.returns
returns c =
    let global = λ (arg : Arg). arg.global in (
      ap rule_of c.action.ensures ∙ ap (λ (rule : Rule). record rule { action = Some Append }) (ap rule_of c.hide.ensures ∙ c.new.ensures.rule),
      ap global c.action.ensures ∙ (ap global c.hide.ensures ∙ c.new.ensures.optional.1),
    )
