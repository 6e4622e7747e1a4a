use Rattle.tlsf_held.proofs.Common.{AreLeastRows, IsScriptBut, KeepsScript, Trace}
use Rattle.tlsf_held.proofs.least.least_rows.Given as goal

abbrev pub invariant-loop-worker : goal.invariant-loop-worker
invariant-loop-worker g l = record {
  script : KeepsScript g.row.SLI l.fn.script l.script;
  rows : (trace : Trace) → IsScriptBut l.fn.script trace → AreLeastRows trace l.worker l.rows.items;
}
