use Rattle.tlsf_diagnosis.proofs.Common.{◌≡◌, ◌++◌, string_bytes, take, shown_byte}
use Rattle.std.specs.List.{flat_map}
use Rattle.tlsf_diagnosis.proofs.line_view.push_bytes.Given as goal

-- the bytes so far are added as they are shown
abbrev pub invariant-loop-byte : goal.invariant-loop-byte
invariant-loop-byte l = string_bytes l.text ≡ string_bytes l.fn.text ++ flat_map shown_byte (take l.byte-index l.bytes)
