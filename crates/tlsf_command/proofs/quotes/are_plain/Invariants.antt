use Rattle.tlsf_command.proofs.Common.{◌≡◌, drop, list_all, is_plain}
use Rattle.tlsf_command.proofs.quotes.are_plain.Given as goal

-- all are such where those that are left are
abbrev pub invariant-loop-byte : goal.invariant-loop-byte
invariant-loop-byte l = list_all is_plain (drop l.byte-index l.bytes) ≡ list_all is_plain l.bytes
