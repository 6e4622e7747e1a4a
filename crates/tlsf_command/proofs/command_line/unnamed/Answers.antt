use Rattle.std.proofs.Common.{arith, refl}
use Rattle.tlsf_command.proofs.ChosenCommands.{merges_kinds}
use Rattle.tlsf_command.proofs.command_line.unnamed.Goals as goal

pub returns-in_default : goal.returns-in_default
returns-in_default c = (
  merges_kinds c.args.run (λ no. let none = c.requires no in absurd (omega (arith, none, c.if-number-eq0.false))) c.in_default.not-Map,
  refl,
  λ none. absurd (omega (arith, none, c.if-number-eq0.false)),
  refl,
)
