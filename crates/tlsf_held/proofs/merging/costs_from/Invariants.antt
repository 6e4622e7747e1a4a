use Rattle.tlsf_held.proofs.Common.{◌≡◌, ℕ, ◌+◌, ◌<◌, ◌≤◌, ◌^◌, length, get_or, part_words}
use Rattle.tlsf_held.proofs.merging.costs_from.Given as goal

-- the words of the parts that end so far
abbrev pub invariant-loop-last : goal.invariant-loop-last
invariant-loop-last g l = record {
  room : length l.costs ≡ 64;
  are : (k : ℕ) → l.at ≤ k → k < l.last → k < length l.table → get_or l.costs k 0 ≡ part_words g.row.SLI l.steps l.table l.at (k + 1);
  small : (k : ℕ) → get_or l.costs k 0 ≤ 2 ^ 32;
}
