use Rattle.tlsf_lines.proofs.Common.{◌≡◌, min, take, true, all_ascii_digits}
use Rattle.std.specs.Str.Parse.{digits_value}
use Rattle.tlsf_lines.proofs.numbers.leading_digits.Given as goal

-- the number so far, or one that is too great
abbrev pub invariant-loop-i : goal.invariant-loop-i
invariant-loop-i l = record {
  so_far : l.number ≡ min (digits_value 10 (take l.i l.text)) 4294967296;
  digits : all_ascii_digits (take l.i l.text) ≡ true;
}
