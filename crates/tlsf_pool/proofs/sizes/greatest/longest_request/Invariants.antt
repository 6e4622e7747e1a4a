use Rattle.tlsf_pool.proofs.Common.{◌+◌, ◌*◌, ◌-◌, ◌<◌, ◌≤◌, most_words, mixed_words}
use Rattle.tlsf_pool.proofs.sizes.greatest.longest_request.Given as goal

abbrev pub invariant-loop-longest : goal.invariant-loop-longest
invariant-loop-longest g l = record {
  between : l.longest < l.above;
  within : l.above ≤ 8 * (most_words g.row.SLI - 3) + 1;
  reached : mixed_words g.row.SLI l.most l.longest ≤ most_words g.row.SLI;
  passed : l.above < 8 * (most_words g.row.SLI - 3) + 1 → ¬ (mixed_words g.row.SLI l.most l.above ≤ most_words g.row.SLI);
}

abbrev pub decreases-loop-longest : goal.decreases-loop-longest
decreases-loop-longest g l = l.above - l.longest
