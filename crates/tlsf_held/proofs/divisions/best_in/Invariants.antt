use Rattle.tlsf_held.proofs.Common.{◌≡◌, ◌+◌, length, cost_in, AreBest}
use Rattle.tlsf_held.proofs.divisions.best_in.Given as goal

-- this many parts are allowed
abbrev pub invariant-loop-heaps : goal.invariant-loop-heaps
invariant-loop-heaps l = record { long : length l.row ≡ length l.costs + 1; best : AreBest (cost_in l.costs) (length l.costs) l.heaps l.row }
