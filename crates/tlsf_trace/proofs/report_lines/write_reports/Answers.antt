use Rattle.tlsf_trace.proofs.Common.{◌≡◌, ◌<◌, ◌++◌, map, length, get_or, string_bytes, sym, ap, ◌∙◌, arith, length-map, heap_of, report_line}
use Rattle.std.proofs.Math.ListN.{get_or-map}
use Rattle.std.proofs.Math.Seq.{map-set_same}
use Rattle.tlsf_heap.specs.declared.report.Report.{Report}
use Rattle.tlsf_heap.specs.Reports.{report_of}
use Rattle.tlsf_trace.proofs.ReportSteps.{goes_on}
use Rattle.tlsf_trace.proofs.report_lines.write_reports.Goals as goal

pub loop-number-preserved : goal.loop-number-preserved
loop-number-preserved g c =
    let ws = c.loop-number.workers in
    let i = c.loop-number.number in
    let found = c.index-workers-number.result in
    let a = get_or ws i found in
    let inv = c.loop-number.invariant in
    let heaps = map heap_of c.args.workers.now in
    let len : length heaps ≡ length ws = ap length (sym inv.heaps) ∙ length-map ws heap_of in
    let within : i < length heaps = omega (arith, len) in
    let here : get_or heaps i (heap_of found) ≡ heap_of a = ap (λ l. get_or l i (heap_of found)) (sym inv.heaps) ∙ get_or-map heap_of ws i found in
    let line : string_bytes c.write_line.new.text ≡ string_bytes c.loop-number.text ++ report_line i (report_of g.row.SLI (heap_of a)) =
    c.in_ok-write_line.ensures ∙ ap (λ (r : Report). string_bytes c.loop-number.text ++ report_line i r) c.report-report.ensures.reports.report_is in
    record {
      heaps = map-set_same heap_of ws i c.report-report.new.self found c.report-report.ensures.reports.heap ∙ inv.heaps;
      so_far = rw line (goes_on g.row.SLI _ _ heaps i (heap_of found) (heap_of a) within here inv.so_far);
    }
