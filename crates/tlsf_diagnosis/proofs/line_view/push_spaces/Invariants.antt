use Rattle.std.proofs.Common.{◌≡◌, ◌++◌, string_bytes, replicate}
use Rattle.tlsf_diagnosis.proofs.line_view.push_spaces.Given as goal

-- this many spaces are added
abbrev pub invariant-loop-i : goal.invariant-loop-i
invariant-loop-i l = string_bytes l.text ≡ string_bytes l.fn.text ++ replicate l._i 32
