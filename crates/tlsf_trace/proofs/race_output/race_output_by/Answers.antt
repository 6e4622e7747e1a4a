use Rattle.tlsf_trace.proofs.Common.{◌≡◌, string_bytes, arith, none_known, point_at, race_start, world_in}
use Rattle.tlsf_trace.proofs.RacedPhases.{all_raced, heap_count, opened_count}
use Rattle.tlsf_trace.proofs.race_output.race_output_by.Goals as goal

pub returns : goal.returns
returns g c =
    let header = c.args.trace.now.header in
    let yard = c.in_ok-yard.yard in
    let opened = c.in_ok-yard.ensures in
    let raced = rw opened.kind at c.in_ok-yard-2.ensures.raced in
    let start : point_at yard none_known (string_bytes c.new-text.result) ≡ race_start header = λ k. record { world = opened.world k; known = none_known; text = c.new-text.ensures.bytes k } in
    all_raced header c.args.trace.now.lines.items (string_bytes c.report_yard.new.text) (omega (arith, opened_count (world_in yard) _ header (heap_count yard) opened.world)) start
    (rw c.deref.ensures.value at raced.1) c.in_ok-report_yard.ensures
