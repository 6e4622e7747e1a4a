use Rattle.tlsf_held.proofs.Common.{◌≡◌, ◌++◌, string_bytes, kinds_text, table_of}
use Rattle.tlsf_held.proofs.kind_lines.write_kinds_lines.Given as goal

abbrev pub invariant-loop-worker : goal.invariant-loop-worker
invariant-loop-worker g l = string_bytes l.text ≡ string_bytes l.fn.text ++ kinds_text g.row.SLI (λ j. table_of g.row.SLI j l.made l.entries) l.worker
