-- The program's commands, one argument after the other.
use Rattle.tlsf_command.proofs.Common.{◌≡◌, ◌∙◌, Bool, List, [], ◌∷◌, ◌++◌, ap, ap₂, map, refl, IsArg, IsOf}
use Rattle.std.proofs.lemmas.List.{map-append}
use Rattle.std.specs.Borrow.{Bor}
use Rattle.clap.specs.Adds.{AddsAliases}
use Rattle.clap.specs.Words.{AddsArg, App, Rule, Text, rule_of, with_rule}
use Rattle.clap.specs.declared.builder.arg.Arg.{Arg}
use Rattle.clap.specs.declared.builder.command.Command.{Command}

-- a command with one argument more
pub with_argument : {old new : Command} {arg : Arg} {app : App} {rule : Rule} → IsOf app old → IsArg rule arg → AddsArg old arg new → IsOf (with_rule app rule) new
with_argument command argument added = (
  added.shape argument.1 ∙ ap₂ with_rule command.0 argument.0,
  added.globals ∙ rw (command.1, argument.1) refl,
)

-- an argument with another long name
pub with_alias : (old new : Arg) (name : Bor Text) (shown : Bool) (rule : Rule) → IsArg rule old → AddsAliases old new ((name, shown) ∷ [])
    → IsArg (record rule { aliases = rule.aliases ++ name.now ∷ [] }) new
with_alias old new name shown rule argument added =
    let names = λ (alias : Bor Text × Bool). alias.0.now in
    let all : map names new.aliases.items ≡ rule.aliases ++ name.now ∷ [] =
    ap (map names) added.1 ∙ (map-append names old.aliases.items ((name, shown) ∷ []) ∙ ap (λ (texts : List Text). texts ++ name.now ∷ []) (ap (λ (r : Rule). r.aliases) argument.0)) in (
      ap rule_of added.0 ∙ ap₂ (λ (r : Rule) (texts : List Text). record r { aliases = texts }) argument.0 all,
      ap (λ (arg : Arg). arg.global) added.0 ∙ argument.1,
    )
