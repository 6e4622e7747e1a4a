use Rattle.std.proofs.Common.{◌∙◌, Some, ap}
use Rattle.clap.specs.Words.{Rule, rule_of}
use Rattle.clap.specs.declared.builder.action.ArgAction.TheVariants.{SetTrue}
use Rattle.clap.specs.declared.builder.arg.Arg.{Arg}
use Rattle.tlsf_command.proofs.command_line.flag.Goals as goal

pub returns : goal.returns
returns c =
    let global = λ (arg : Arg). arg.global in (
      ap rule_of c.action.ensures ∙ ap (λ (rule : Rule). record rule { action = Some SetTrue })
          (ap rule_of c.help.ensures ∙ (ap rule_of c.long.ensures ∙ ap (λ (rule : Rule). record rule { long = Some c.args.name.now }) c.new.ensures.rule)),
      ap global c.action.ensures ∙ (ap global c.help.ensures ∙ (ap global c.long.ensures ∙ c.new.ensures.optional.1)),
    )
