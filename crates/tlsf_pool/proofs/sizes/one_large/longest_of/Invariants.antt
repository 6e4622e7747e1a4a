use Rattle.tlsf_pool.proofs.Common.{◌≡◌, drop, fold, map, max, longest_of}
use Rattle.tlsf_pool.proofs.sizes.one_large.longest_of.Given as goal

abbrev pub invariant-loop-kind : goal.invariant-loop-kind
invariant-loop-kind l = fold max l.longest (map (λ kind. kind.len) (drop l.kind-index l.kinds)) ≡ longest_of l.kinds
