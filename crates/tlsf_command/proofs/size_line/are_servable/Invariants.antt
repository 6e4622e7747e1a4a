use Rattle.tlsf_command.proofs.Common.{◌↔◌, drop, AllByRecursion, IsServable}
use Rattle.tlsf_command.proofs.size_line.are_servable.Given as goal

-- all are such where those that are left are
abbrev pub invariant-loop-kind : goal.invariant-loop-kind
invariant-loop-kind g l = AllByRecursion (IsServable g.row.SLI) (drop l.kind-index l.kinds) ↔ AllByRecursion (IsServable g.row.SLI) l.kinds
