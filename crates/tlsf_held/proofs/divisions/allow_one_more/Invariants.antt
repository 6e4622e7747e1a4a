use Rattle.tlsf_held.proofs.Common.{◌≡◌, ℕ, ◌+◌, ◌<◌, ◌≤◌, length, get_or, cost_in, no_split, IsBest}
use Rattle.tlsf_held.proofs.divisions.allow_one_more.Given as goal

-- one part more is allowed in front of a place, and not yet from there on
abbrev pub invariant-loop-at : goal.invariant-loop-at
invariant-loop-at l = record {
  long : length l.row ≡ length l.costs + 1;
  more : (k : ℕ) → k < l.at → IsBest (cost_in l.costs) (length l.costs) (l.heaps + 1) k (get_or l.row k no_split);
  before : (k : ℕ) → l.at ≤ k → k ≤ length l.costs → IsBest (cost_in l.costs) (length l.costs) l.heaps k (get_or l.row k no_split);
}
