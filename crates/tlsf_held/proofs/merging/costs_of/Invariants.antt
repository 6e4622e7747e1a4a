use Rattle.tlsf_held.proofs.Common.{◌≡◌, ℕ, ◌+◌, ◌<◌, ◌≤◌, ◌^◌, [], get_or, length, cost_in, part_words}
use Rattle.tlsf_held.proofs.merging.costs_of.Given as goal

-- the words of the parts that begin so far
abbrev pub invariant-loop-at : goal.invariant-loop-at
invariant-loop-at g l = record {
  many : length l.costs.items ≡ l.at;
  are : (from last : ℕ) → from < l.at → from ≤ last → last < length l.table → cost_in l.costs.items from (last + 1) ≡ part_words g.row.SLI l.steps l.table from (last + 1);
  small : (from last : ℕ) → get_or (get_or l.costs.items from []) last 0 ≤ 2 ^ 32;
}
