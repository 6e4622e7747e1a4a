use Rattle.tlsf_command.proofs.Common.{◌≡◌, ◌+◌, drop, asked_bytes}
use Rattle.tlsf_command.proofs.size_line.asked_bytes.Given as goal

abbrev pub invariant-loop-kind : goal.invariant-loop-kind
invariant-loop-kind l = l.bytes + asked_bytes (drop l.kind-index l.kinds) ≡ asked_bytes l.kinds
