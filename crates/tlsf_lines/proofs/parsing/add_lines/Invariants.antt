use Rattle.tlsf_lines.proofs.Common.{◌≡◌, ◌+◌, ◌*◌, ◌<◌, ◌≤◌, List, [], length, width_in, Recalls, Remembers, pieces_of, lines_in, Line}
use Rattle.tlsf_lines.proofs.LineSteps.{put_behind}
use Rattle.tlsf_lines.proofs.parsing.add_lines.Given as goal

-- the lines so far, from which something is made, and those that the rest gives after them are those of all
abbrev pub invariant-loop-rest : goal.invariant-loop-rest
invariant-loop-rest g l = record {
  before : List Line;
  lines : List Line;
  remembers : Remembers l.labels before;
  recalls : Recalls l.workers l.labels before;
  held : g.M.FromLines.has l.made l.fn.header before lines;
  so_far : put_behind lines (lines_in l.workers before l.number (pieces_of l.rest)) ≡ lines_in l.workers [] 2 (pieces_of l.text);
  count : length lines + length (pieces_of l.rest) ≡ length (pieces_of l.text);
  behind : length lines + 2 ≡ l.number;
  numbers : l.number + length l.rest ≤ 2 + length l.text;
  phases : l.labels.phase < l.number;
  events : l.events ≡ width_in l.workers before;
  few : l.events ≤ 8 * l.number;
}

abbrev pub decreases-loop-rest : goal.decreases-loop-rest
decreases-loop-rest g l = length l.rest
