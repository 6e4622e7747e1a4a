use Rattle.tlsf_lines.proofs.Common.{◌≡◌, ◌<◌, true, refl, IsAscii, nat_lt, ltb-true, All-weaker, AllPass-from_list_all}
use Rattle.std.proofs.lemmas.Str.{IsUtf8-from_ascii}
use Rattle.std.proofs.lemmas.Str.Ascii.{IsAscii-from_all}
use Rattle.hex.specs.Hex.{lower_digits}
use Rattle.hex.proofs.HexLemmas.{IsAscii-encode_with}
use Rattle.tlsf_lines.proofs.reply_lines.write_bytes.Goals as goal

digits_ascii : IsAscii lower_digits
digits_ascii =
    let pass = AllPass-from_list_all (λ b. nat_lt b 128) lower_digits refl in
    IsAscii-from_all lower_digits (All-weaker (λ b. nat_lt b 128 ≡ true) (λ b. b < 128) (λ b yes. ltb-true b 128 yes) lower_digits pass)

pub unreachable-requires-in_default-from_utf8 : goal.unreachable-requires-in_default-from_utf8
unreachable-requires-in_default-from_utf8 c =
    c.in_default-from_utf8.ensures.cases.0 (rw c.in-Ok.ensures.written (IsUtf8-from_ascii _ (IsAscii-encode_with lower_digits _ digits_ascii)))
