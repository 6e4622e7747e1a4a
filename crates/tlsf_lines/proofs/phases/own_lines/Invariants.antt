use Rattle.tlsf_lines.proofs.Common.{◌≡◌, ◌++◌, ◌≤◌, drop, vec_len, own_lines}
use Rattle.tlsf_lines.proofs.phases.own_lines.Given as goal

-- the own lines so far and those of what is left are all
abbrev pub invariant-loop-line : goal.invariant-loop-line
invariant-loop-line l = record {
  so_far : l.own.items ++ own_lines l.worker (drop l.line-index l.phase) ≡ own_lines l.worker l.phase;
  few : vec_len l.own ≤ l.line-index;
}
