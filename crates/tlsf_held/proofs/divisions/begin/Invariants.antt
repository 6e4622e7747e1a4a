use Rattle.tlsf_held.proofs.Common.{◌≡◌, ℕ, ◌+◌, ◌<◌, length, get_or, cost_in, no_split, IsBest}
use Rattle.tlsf_held.proofs.divisions.begin.Given as goal

-- one part from each place so far
abbrev pub invariant-loop-at : goal.invariant-loop-at
invariant-loop-at l = record {
  long : length l.row ≡ length l.costs + 1;
  one : (k : ℕ) → k < l.at → IsBest (cost_in l.costs) (length l.costs) 1 k (get_or l.row k no_split);
}
