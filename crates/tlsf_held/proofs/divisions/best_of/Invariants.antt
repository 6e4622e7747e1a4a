use Rattle.tlsf_held.proofs.Common.{◌+◌, ◌≤◌, length, cost_in, HasFirst, IsBestAmong}
use Rattle.tlsf_held.proofs.divisions.best_of.Given as goal

-- the best of the splits whose first part ends so far at most
abbrev pub invariant-loop-last : goal.invariant-loop-last
invariant-loop-last l = record {
  from : l.at ≤ l.last;
  best : IsBestAmong (cost_in l.costs) (length l.costs) (l.heaps + 1) l.at (HasFirst l.heaps l.at l.last) l.best;
}
