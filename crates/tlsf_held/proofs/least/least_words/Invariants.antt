use Rattle.tlsf_held.proofs.Common.{◌+◌, ◌-◌, ◌<◌, ◌≤◌, IsScriptBut, IsBracket, KeepsScript, Trace}
use Rattle.tlsf_held.proofs.least.least_words.Given as goal

abbrev pub invariant-loop-served : goal.invariant-loop-served
invariant-loop-served g l = record {
  least : 3 ≤ l.refused;
  apart : l.refused < l.served;
  most : l.served ≤ l.most + 1;
  script : KeepsScript g.row.SLI l.fn.script l.script;
  bracket : (trace : Trace) → IsScriptBut l.fn.script trace → IsBracket trace l.worker l.refused l.served;
}

abbrev pub decreases-loop-served : goal.decreases-loop-served
decreases-loop-served g l = l.served - l.refused
