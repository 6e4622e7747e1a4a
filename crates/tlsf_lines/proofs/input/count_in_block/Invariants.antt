use Rattle.std.proofs.Common.{◌≡◌, eqb, count_by, take}
use Rattle.tlsf_lines.proofs.input.count_in_block.Given as goal

abbrev pub invariant-loop-byte : goal.invariant-loop-byte
invariant-loop-byte l = l.count ≡ count_by (λ b. eqb b 10) (take l.byte-index l.block)
