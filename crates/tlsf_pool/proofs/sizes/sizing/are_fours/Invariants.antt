use Rattle.tlsf_pool.proofs.Common.{◌≡◌, drop, are_fours}
use Rattle.tlsf_pool.proofs.sizes.sizing.are_fours.Given as goal

-- all are short where those that are left are
abbrev pub invariant-loop-kind : goal.invariant-loop-kind
invariant-loop-kind l = are_fours (drop l.kind-index l.kinds) ≡ are_fours l.kinds
