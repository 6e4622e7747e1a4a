use Rattle.tlsf_pool.proofs.Common.{◌≡◌, drop, fold, map, max, used, longest_of}
use Rattle.tlsf_pool.proofs.sizes.fixed_size.longest_used.Given as goal

-- the longest so far, and those that are left
abbrev pub invariant-loop-kind : goal.invariant-loop-kind
invariant-loop-kind l = fold max l.longest (map (λ kind. kind.len) (used (drop l.kind-index l.kinds))) ≡ longest_of (used l.kinds)
