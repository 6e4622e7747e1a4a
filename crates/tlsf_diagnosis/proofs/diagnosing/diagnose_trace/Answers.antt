use Rattle.tlsf_diagnosis.proofs.Common.{Err, ap, arith, string_bytes, is_call}
use Rattle.std.proofs.lemmas.List.Sums.{count_by-le-length}
use Rattle.tlsf_lines.specs.Views.{view_trace}
use Rattle.tlsf_trace.proofs.WholeReplay.{run_is_done}
use Rattle.tlsf_diagnosis.proofs.UnreadRuns.{unread_notes, unread_run}
use Rattle.tlsf_diagnosis.proofs.diagnosing.diagnose_trace.Goals as goal

pub returns-in-Err-clause-run : goal.returns-in-Err-clause-run
returns-in-Err-clause-run g c =
    unread_run c.note_unread.result _ _ _ c.in-Err.error (string_bytes c.args.note.now) (string_bytes c.note_unread.new.note) (λ limit same. c.in-Err.ensures.passed limit (ap Err same)) c.note_unread.ensures

pub returns-in-Err-clause-noted : goal.returns-in-Err-clause-noted
returns-in-Err-clause-noted g c =
    unread_notes _ c.note_unread.result c.in-Err.error (string_bytes c.args.note.now) (string_bytes c.note_unread.new.note) (λ limit same. c.in-Err.ensures.passed limit (ap Err same)) c.note_unread.ensures

pub returns-clause-run : goal.returns-clause-run
returns-clause-run g c =
    run_is_done c.in-Ok.text.items (string_bytes c.in_ok-line.line) _ c.in-Ok.ensures.read
    (record { trace = view_trace c.in-Ok-trace_in.trace; spelled = rw c.deref.ensures.value at c.in-Ok-trace_in.ensures.ok; puts = c.in_ok-line.ensures; calls_are = c.count_calls.ensures })
    c.finish.result (rw c.deref-2.ensures at c.finish.ensures)

pub overflow_cast-count_calls : goal.overflow_cast-count_calls
overflow_cast-count_calls g c = omega (arith, c.in-Ok-trace_in.ensures.lines, c.count_calls.ensures, count_by-le-length is_call c.in-Ok-trace_in.trace.lines.items)
