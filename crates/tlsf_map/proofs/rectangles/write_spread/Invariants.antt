use Rattle.std.proofs.Common.{◌≡◌, ◌+◌}
use Rattle.tlsf_map.proofs.rectangles.write_spread.Given as goal

-- the words that are left begin behind those that are drawn
abbrev pub invariant-loop-left : goal.invariant-loop-left
invariant-loop-left l = l.place + l.left ≡ l.fn.at + l.fn.words

abbrev pub decreases-loop-left : goal.decreases-loop-left
decreases-loop-left l = l.left
