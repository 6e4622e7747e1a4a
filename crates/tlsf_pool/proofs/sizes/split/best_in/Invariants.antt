use Rattle.tlsf_pool.proofs.Common.{◌≡◌, ◌+◌, length, AreBest}
use Rattle.tlsf_pool.proofs.sizes.split.best_in.Given as goal

-- this many heaps are allowed
abbrev pub invariant-loop-heaps : goal.invariant-loop-heaps
invariant-loop-heaps g l = record { long : length l.row ≡ length l.kinds + 1; best : AreBest g.row.SLI l.heaps l.kinds l.row }
