use Rattle.tlsf_lines.proofs.Common.{◌≡◌, [], All, take, RecallsCallOf}
use Rattle.tlsf_lines.proofs.phases.forget_calls.Given as goal

-- the calls of the lines so far are forgotten
abbrev pub invariant-loop-line : goal.invariant-loop-line
invariant-loop-line l = record {
  names : l.names.names ≡ l.fn.names.names;
  none : All (RecallsCallOf l.names.calls []) (take l.line-index l.lines);
}
