use Rattle.tlsf_trace.proofs.Common.{◌≡◌, ◌≤◌, IfSome, length, string_bytes, known_in, none_known, phases_of, IsRaceSoFar, point_at, IsWhole, count_in, kind_in, races_over}
use Rattle.tlsf_trace.proofs.RacedPhases.{lines_left, phases_left}
use Rattle.tlsf_trace.proofs.race_output.race_lines.Given as goal

-- the phases so far were raced
abbrev pub invariant-loop-rest : goal.invariant-loop-rest
invariant-loop-rest g l = record {
  kind : kind_in l.yard ≡ kind_in l.fn.yard;
  whole : IsWhole l.yard;
  count : count_in l.yard ≡ count_in l.fn.yard;
  raced : IsRaceSoFar (races_over (kind_in l.fn.yard)) (count_in l.fn.yard) (phases_of l.fn.lines) (phases_left l.rest)
      (point_at l.fn.yard none_known (string_bytes l.fn.text)) (point_at l.yard (known_in l.names) (string_bytes l.text));
  few : IfSome l.rest (λ lines. length lines.now ≤ 32768);
}

abbrev pub decreases-loop-rest : goal.decreases-loop-rest
decreases-loop-rest g l = lines_left l.rest
