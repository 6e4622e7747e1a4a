use Rattle.std.proofs.Common.{◌∙◌}
use Rattle.tlsf_command.proofs.SizeTables.{number_read}
use Rattle.tlsf_command.proofs.arguments.number_of.Goals as goal

pub returns : goal.returns
returns c = c.unwrap_or.ensures ∙ number_read c.args.text.now c.parse.result c.parse.ensures.value.0
