use Rattle.tlsf_command.proofs.Common.{◌≡◌, ◌++◌, flat_map, string_bytes, length, within_quotes}
use denote.Text.{Utf8}
use denote.Shadow.{shadow}
use Rattle.tlsf_command.proofs.quotes.push_within_quotes.Given as goal

-- with what is left, the word is whole
abbrev pub invariant-loop-front : goal.invariant-loop-front
invariant-loop-front l = record {
  utf8 : shadow (Utf8 l.left);
  text : string_bytes l.word ++ flat_map within_quotes l.left ≡ string_bytes l.fn.word ++ flat_map within_quotes l.name;
}

abbrev pub decreases-loop-front : goal.decreases-loop-front
decreases-loop-front l = length l.left
