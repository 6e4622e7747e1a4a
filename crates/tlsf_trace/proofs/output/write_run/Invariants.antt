use Rattle.tlsf_trace.proofs.Common.{◌≡◌, ◌+◌, ◌-◌, ◌++◌, ◌≤◌, string_bytes, vec_len, IsYard, labels_of, labels_left, reply_text, Trace, moment_at, Stands}
use Rattle.tlsf_lines.specs.ScriptSoFar.{IsScript}
use Rattle.tlsf_trace.proofs.output.write_run.Given as goal

-- the trace has run up to this line, and the text has what was answered so far
abbrev pub invariant-loop-line : goal.invariant-loop-line
invariant-loop-line g l = record {
  yard : IsYard l.player.workers.items;
  within : l.line ≤ vec_len l.script.ends + 2;
  so_far : (trace : Trace) → IsScript l.script trace → Stands 0 trace l.fn.player
      → Stands l.line trace l.player × (string_bytes l.text ≡ string_bytes l.fn.text ++ reply_text (moment_at g.row.SLI l.line trace).entries (labels_of trace))
      × (l.labels ≡ labels_left (moment_at g.row.SLI l.line trace).entries (labels_of trace));
}

abbrev pub decreases-loop-line : goal.decreases-loop-line
decreases-loop-line g l = vec_len l.script.ends + 2 - l.line
