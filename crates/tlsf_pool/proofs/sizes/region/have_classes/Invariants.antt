use Rattle.tlsf_pool.proofs.Common.{◌↔◌, drop, AllByRecursion, HasClass}
use Rattle.tlsf_pool.proofs.sizes.region.have_classes.Given as goal

-- all have one where those that are left have
abbrev pub invariant-loop-kind : goal.invariant-loop-kind
invariant-loop-kind g l = AllByRecursion (HasClass g.row.SLI) (drop l.kind-index l.kinds) ↔ AllByRecursion (HasClass g.row.SLI) l.kinds
