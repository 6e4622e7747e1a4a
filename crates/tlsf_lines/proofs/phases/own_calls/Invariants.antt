use Rattle.tlsf_lines.proofs.Common.{◌≡◌, ◌++◌, [], All, List, length, drop, vec_len, calls_from, known_in, RecallsCallOf, Line}
use Rattle.tlsf_lines.proofs.phases.own_calls.Given as goal

-- the calls so far and those of the lines that are left are all; of each label the lines so far are remembered
abbrev pub invariant-loop-line : goal.invariant-loop-line
invariant-loop-line l = record {
  before : List Line;
  names : l.names.names ≡ l.fn.names.names;
  recalls : All (RecallsCallOf l.names.calls before) l.lines;
  count : length before ≡ l.line-index;
  len : vec_len l.calls ≡ l.line-index;
  so_far : l.calls.items ++ calls_from (known_in l.fn.names) before (drop l.line-index l.lines) ≡ calls_from (known_in l.fn.names) [] l.lines;
}
