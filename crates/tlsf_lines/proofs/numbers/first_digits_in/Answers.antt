use Rattle.tlsf_lines.proofs.Common.{◌≡◌, ◌<◌, eqb, false, get_or, length, arith, nat_tests, value_of}
use Rattle.tlsf_lines.proofs.DigitSteps.{no_number, up_to_space, whole}
use Rattle.tlsf_lines.proofs.numbers.first_digits_in.Goals as goal

pub returns-then-len-fields : goal.returns-then-len-fields
returns-then-len-fields c =
    let digits = c.leading_digits-number in
    whole (c.args.least, c.args.most) c.args.fields.now digits.result.1 (value_of c.judge-judged.result) digits.ensures.digits
    (omega (arith, c.if-len-eq0.false)) c.if-len-fields.true c.judge-judged.ensures

pub returns-then-fields-len-ne32 : goal.returns-then-fields-len-ne32
returns-then-fields-len-ne32 c =
    let digits = c.leading_digits-number in
    let lt : digits.result.1 < length c.args.fields.now = omega (arith, digits.ensures.end, c.if-len-fields.false) in
    let apart : eqb (get_or c.args.fields.now digits.result.1 0) 32 ≡ false = grind (arith, nat_tests, c.if-fields-len-ne32.true) in
    no_number (c.args.least, c.args.most) c.args.fields.now digits.result.1 digits.ensures.digits lt (digits.ensures.stop lt) apart

pub returns : goal.returns
returns c =
    let digits = c.leading_digits-number in
    let lt : digits.result.1 < length c.args.fields.now = omega (arith, digits.ensures.end, c.if-len-fields.false) in
    up_to_space (c.args.least, c.args.most) c.args.fields.now digits.result.1 (value_of c.judge-judged.result) digits.ensures.digits
    (omega (arith, c.if-len-eq0.false)) lt c.if-fields-len-ne32.false c.judge-judged.ensures
