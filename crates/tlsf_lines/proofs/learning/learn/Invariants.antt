use Rattle.tlsf_lines.proofs.Common.{◌≡◌, take, known_behind, known_in}
use Rattle.tlsf_lines.proofs.learning.learn.Given as goal

-- the labels of the lines so far have their names
abbrev pub invariant-loop-k : goal.invariant-loop-k
invariant-loop-k l = known_in l.names ≡ known_behind (known_in l.fn.names) (take l.k l.lines) l.made
