use Rattle.tlsf_held.proofs.Common.{◌≡◌, ◌++◌, drop, string_bytes, least_text}
use Rattle.tlsf_held.proofs.least.write_least_lines.Given as goal

-- with the lines of what is left, the text is that of all
abbrev pub invariant-loop-worker : goal.invariant-loop-worker
invariant-loop-worker l = string_bytes l.text ++ least_text l.worker (drop l.worker l.rows) ≡ string_bytes l.fn.text ++ least_text 0 l.rows
