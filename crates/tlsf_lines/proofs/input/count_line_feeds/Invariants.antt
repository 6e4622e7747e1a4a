use Rattle.std.proofs.Common.{◌≡◌, ◌+◌, eqb, count_by, length}
use Rattle.tlsf_lines.proofs.input.count_line_feeds.Given as goal

-- the line feeds so far and those of what is left are all
abbrev pub invariant-loop-rest : goal.invariant-loop-rest
invariant-loop-rest l = l.count + count_by (λ b. eqb b 10) l.rest ≡ count_by (λ b. eqb b 10) l.bytes

abbrev pub decreases-loop-rest : goal.decreases-loop-rest
decreases-loop-rest l = length l.rest
