use Rattle.tlsf_pool.proofs.Common.{◌≡◌, ℕ, ◌+◌, ◌<◌, ◌≤◌, length, get_or, drop, None, AreSmall, IsBest}
use Rattle.tlsf_pool.proofs.sizes.split.allow_one_more.Given as goal

-- one heap more is allowed in front of a place, and not yet from there on
abbrev pub invariant-loop-at : goal.invariant-loop-at
invariant-loop-at g l = record {
  long : length l.row ≡ length l.kinds + 1;
  more : (k : ℕ) → k < l.at → IsBest g.row.SLI (l.heaps + 1) (drop k l.kinds) (get_or l.row k None) × AreSmall (l.heaps + 1) (get_or l.row k None);
  before : (k : ℕ) → l.at ≤ k → k < length l.row → IsBest g.row.SLI l.heaps (drop k l.kinds) (get_or l.row k None) × AreSmall l.heaps (get_or l.row k None);
}
