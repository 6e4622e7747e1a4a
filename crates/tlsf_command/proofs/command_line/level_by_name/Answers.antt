use Rattle.tlsf_command.proofs.Common.{rules, ◌≡◌, ◌∙◌, Some, codes, ap, pos}
use Rattle.clap.specs.Words.{Rule, new_rule, rule_of}
use Rattle.clap.specs.declared.builder.action.ArgAction.TheVariants.{Set}
use Rattle.clap.specs.declared.builder.arg.Arg.{Arg}
use Rattle.clap.specs.declared.builder.value_parser.ValueParser.TheVariants.{Signed}
use Rattle.tlsf_command.proofs.command_line.level_by_name.Goals as goal

-- what the level is before it is known to be a number
some_text : (c : goal.After-value_parser-2) → rule_of c.action.result ≡ record (new_rule (codes "level")) { long = Some (codes "level"); action = Some Set }
some_text c =
    ap rule_of c.action.ensures ∙ ap (λ (rule : Rule). record rule { action = Some Set })
    (ap rule_of c.help.ensures ∙ (ap rule_of c.long.ensures ∙ ap (λ (rule : Rule). record rule { long = Some (codes "level") }) c.new.ensures.rule))

pub returns : goal.returns
returns c =
    let number : c.value_parser-2.result.value_parser ≡ Some (Signed (pos 4) (pos 5)) = search rules in
    let global = λ (arg : Arg). arg.global in (
      ap rule_of c.value_parser-2.ensures.others ∙ rw number (ap (λ (rule : Rule). record rule { parser = Some (Signed (pos 4) (pos 5)) }) (some_text c)),
      ap global c.value_parser-2.ensures.others ∙ (ap global c.action.ensures ∙ (ap global c.help.ensures ∙ (ap global c.long.ensures ∙ c.new.ensures.optional.1))),
    )
