use Rattle.tlsf_command.proofs.Common.{rules, ◌≡◌, ◌∙◌, true, Some, ap, pos}
use Rattle.clap.specs.Words.{Rule, new_rule, rule_of}
use Rattle.clap.specs.declared.builder.action.ArgAction.TheVariants.{Append}
use Rattle.clap.specs.declared.builder.arg.Arg.{Arg}
use Rattle.clap.specs.declared.builder.value_parser.ValueParser.TheVariants.{Signed}
use Rattle.tlsf_command.proofs.command_line.count_option.Goals as goal

-- what the option is before it is known to be a number
some_text : (c : goal.After-value_parser-2) → rule_of c.action.result ≡ record (new_rule c.args.id.now) { long = Some c.args.name.now; required = true; action = Some Append }
some_text c =
    ap rule_of c.action.ensures ∙ ap (λ (rule : Rule). record rule { action = Some Append })
    (ap rule_of c.required.ensures ∙ ap (λ (rule : Rule). record rule { required = true })
    (ap rule_of c.help.ensures ∙ (ap rule_of c.long.ensures ∙ ap (λ (rule : Rule). record rule { long = Some c.args.name.now }) c.new.ensures.rule)))

pub returns : goal.returns
returns c =
    let number : c.value_parser-2.result.value_parser ≡ Some (Signed (pos 1) (pos 4294967295)) = search rules in
    let global = λ (arg : Arg). arg.global in (
      ap rule_of c.value_parser-2.ensures.others ∙ rw number (ap (λ (rule : Rule). record rule { parser = Some (Signed (pos 1) (pos 4294967295)) }) (some_text c)),
      ap global c.value_parser-2.ensures.others ∙ (ap global c.action.ensures ∙ (ap global c.required.ensures
          ∙ (ap global c.help.ensures ∙ (ap global c.long.ensures ∙ c.new.ensures.optional.1)))),
    )
