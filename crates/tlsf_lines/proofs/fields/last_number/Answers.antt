use Rattle.std.proofs.Common.{◌∙◌}
use Rattle.tlsf_lines.proofs.LastField.{last_digits}
use Rattle.tlsf_lines.proofs.fields.last_number.Goals as goal

pub returns : goal.returns
returns c = rw c.in_ok-fields.was (c.digits_in.ensures ∙ last_digits (c.args.least, c.args.most) c.in_ok-fields.field-0.now)
