use Rattle.tlsf_command.proofs.Common.{◌≡◌, drop, max, longest_of}
use Rattle.tlsf_command.proofs.split_lines.longest_of.Given as goal

abbrev pub invariant-loop-kind : goal.invariant-loop-kind
invariant-loop-kind l = max l.longest (longest_of (drop l.kind-index l.kinds)) ≡ longest_of l.kinds
