use Rattle.tlsf_lines.proofs.Common.{◌≡◌, ℕ, ◌-◌, ◌≤◌, true, get_or, add-one, arith, digit_value, is_ascii_digit, nat_tests}
use Rattle.std.proofs.lemmas.Int.Digits.{digits_value_more}
use Rattle.tlsf_lines.proofs.DigitSteps.{one_more}
use Rattle.tlsf_lines.proofs.numbers.leading_digits.Goals as goal

digit_is : (c : ℕ) → 48 ≤ c → c ≤ 57 → digit_value c ≡ c - 48
digit_is c low high = grind (arith, nat_tests)

is_digit : (c : ℕ) → 48 ≤ c → c ≤ 57 → is_ascii_digit c ≡ true
is_digit c low high = grind (arith, nat_tests)

pub loop-i-preserved : goal.loop-i-preserved
loop-i-preserved c =
    let more = digits_value_more 10 c.args.text.now c.loop-i.i c.loop-i-test.true in
    let cases = c.if-not-is_ascii_digit.ensures.cases in
    let digit = digit_is (get_or c.args.text.now c.loop-i.i 0) cases.0 cases.1 in
    record {
      so_far = omega (arith, more, digit, c.min-number.ensures, c.from.ensures, c.loop-i.invariant.so_far);
      digits = rw add-one (one_more c.args.text.now c.loop-i.i c.loop-i-test.true c.loop-i.invariant.digits (is_digit _ cases.0 cases.1));
    }
