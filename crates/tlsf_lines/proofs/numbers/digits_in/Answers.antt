use Rattle.std.proofs.Common.{sym}
use Rattle.tlsf_lines.proofs.DigitSteps.{no_field}
use Rattle.tlsf_lines.proofs.numbers.digits_in.Goals as goal

pub returns-then-len-field : goal.returns-then-len-field
returns-then-len-field c =
    let digits = c.leading_digits-number in
    sym (no_field (c.args.least, c.args.most) c.args.field.now digits.result.1 c.if-len-field.true (digits.ensures.stop c.if-len-field.true))
