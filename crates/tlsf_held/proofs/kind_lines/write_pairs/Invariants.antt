use Rattle.tlsf_held.proofs.Common.{◌≡◌, ◌++◌, drop, string_bytes, pairs_text}
use Rattle.tlsf_held.proofs.kind_lines.write_pairs.Given as goal

-- with the pairs of what is left, the text is that of all
abbrev pub invariant-loop-row : goal.invariant-loop-row
invariant-loop-row l = string_bytes l.text ++ pairs_text (drop l.row-index l.rows) ≡ string_bytes l.fn.text ++ pairs_text l.rows
