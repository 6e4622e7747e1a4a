use Rattle.tlsf_trace.proofs.Common.{◌≡◌, ◌++◌, map, string_bytes, drop, heap_of, report_text, report_text_from}
use Rattle.tlsf_trace.proofs.report_lines.write_reports.Given as goal

-- the heaps stay, and the lines so far and those of the heaps that are left are the lines of all
abbrev pub invariant-loop-number : goal.invariant-loop-number
invariant-loop-number g l = record {
  heaps : map heap_of l.workers ≡ map heap_of l.fn.workers;
  so_far : string_bytes l.text ++ report_text_from g.row.SLI l.number (drop l.number (map heap_of l.fn.workers)) ≡ string_bytes l.fn.text ++ report_text g.row.SLI (map heap_of l.fn.workers);
}
