use Rattle.std.proofs.Common.{string_bytes}
use Rattle.tlsf_trace.proofs.WholeReplay.{run_is_done}
use Rattle.tlsf_held.proofs.least_run.measure_least.Goals as goal

pub returns : goal.returns
returns g c =
    let script = rw c.deref.ensures.value at c.in_ok-script.ensures.ok in
    run_is_done c.in_ok-text.text.items (string_bytes c.in_ok-output.output) c.in_ok-script.script.calls c.in_ok-text.ensures.read
    (record { trace = script.trace; spelled = script.spelled; puts = c.in_ok-output.ensures script.trace script.is_script; calls_are = script.is_script.calls })
    c.finish.result (rw c.deref-2.ensures at c.finish.ensures)
