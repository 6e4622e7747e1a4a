use Rattle.tlsf_pool.proofs.Common.{◌+◌, AreSmall, HasFirst, IsBestAmong}
use Rattle.tlsf_pool.proofs.sizes.split.best_of.Given as goal

-- the best of the splits whose first heap has at most this many kinds
abbrev pub invariant-loop-index : goal.invariant-loop-index
invariant-loop-index g l = record { best : IsBestAmong g.row.SLI (HasFirst l.heaps l.index) l.kinds l.best; small : AreSmall (l.heaps + 1) l.best }
