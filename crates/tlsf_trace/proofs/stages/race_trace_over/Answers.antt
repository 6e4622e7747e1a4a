use Rattle.std.proofs.Common.{arith, string_bytes}
use Rattle.std.proofs.lemmas.List.Sums.{count_by-le-length}
use Rattle.tlsf_lines.specs.Lines.{is_call}
use Rattle.tlsf_lines.specs.Views.{view_trace}
use Rattle.tlsf_trace.proofs.WholeReplay.{run_is_done}
use Rattle.tlsf_trace.proofs.stages.race_trace_over.Goals as goal

pub returns : goal.returns
returns g c =
    run_is_done c.in_ok-bytes.bytes.items (string_bytes c.in_ok-output.output) _ c.in_ok-bytes.ensures.read
    (record { trace = view_trace c.in_ok-trace.trace; spelled = rw c.deref.ensures.value at c.in_ok-trace.ensures.ok; puts = c.in_ok-output.ensures; calls_are = c.count_calls.ensures })
    c.finish.result (rw c.deref-2.ensures at c.finish.ensures)

pub overflow_cast-count_calls : goal.overflow_cast-count_calls
overflow_cast-count_calls g c = omega (arith, c.in_ok-trace.ensures.lines, c.count_calls.ensures, count_by-le-length is_call c.in_ok-trace.trace.lines.items)
