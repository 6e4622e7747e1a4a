use Rattle.tlsf_held.proofs.Common.{string_bytes, AddsMerged}
use Rattle.tlsf_held.proofs.kind_lines.write_merged_lines.Given as goal

abbrev pub invariant-loop-worker : goal.invariant-loop-worker
invariant-loop-worker g l = AddsMerged g.row.SLI l.heaps l.worker l.made l.entries (string_bytes l.fn.text) (string_bytes l.text)
