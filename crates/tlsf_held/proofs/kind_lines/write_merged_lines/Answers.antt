use Rattle.std.proofs.Common.{string_bytes}
use Rattle.tlsf_held.proofs.MergedLines.{added_none, added_one}
use Rattle.tlsf_held.proofs.kind_lines.write_merged_lines.Goals as goal

pub loop-worker-init : goal.loop-worker-init
loop-worker-init g c = added_none g.row.SLI c.args.heaps c.args.made.now c.args.entries.now (string_bytes c.args.text.now)

pub loop-worker-preserved : goal.loop-worker-preserved
loop-worker-preserved g c =
    added_one g.row.SLI c.args.heaps c.args.made.now c.args.entries.now (string_bytes c.args.text.now) c.loop-worker.worker c.in_ok-rows.rows.items (string_bytes c.loop-worker.text)
    (string_bytes c.write_kinds_line.new.text) c.loop-worker.invariant c.in_ok-rows.ensures (rw c.deref.ensures.value at c.in_ok-write_kinds_line.ensures)
